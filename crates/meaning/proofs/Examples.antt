-- The worked examples, by computation.
use Rattle.std.proofs.Common.{◌≡◌, ℕ, ◌≤◌, List, codes, refl, arith}
use Rattle.std.specs.Int.{int_wrap}
use Rattle.syntax.specs.Tokens.{kinds}
use Rattle.lexer.specs.Lex.{accepted, answer}
use Rattle.grammar.specs.Grammar.{Expression, expression_parens, yield}
use Rattle.meaning.specs.Sources.{tokens_of, program_of, Spells}
use Rattle.meaning.specs.Examples.{counting, counting_tree, squares, squares_tree, printing, printing_tree, Examples}

counting_spelled : Spells counting counting_tree (program_of counting_tree counting)
counting_spelled = record { read = refl; within = (omega arith, omega arith, (tt, (tt, (tt, (tt, tt))))); spelled = refl; placed = refl }

squares_spelled : Spells squares squares_tree (program_of squares_tree squares)
squares_spelled = record { read = refl; within = (omega arith, omega arith, (tt, (tt, (tt, ((tt, (tt, tt)), (tt, tt)))))); spelled = refl; placed = refl }

printing_spelled : (text : List ℕ) (e : Expression) → expression_parens e ≤ 32 → answer (printing text) ≡ accepted (tokens_of (printing text)) →
    yield (printing_tree e) ≡ kinds (tokens_of (printing text)) → Spells (printing text) (printing_tree e) (program_of (printing_tree e) (printing text))
printing_spelled text e h read spelled =
    record { read = read; within = (omega (arith, h), omega arith, (tt, (tt, tt))); spelled = spelled; placed = refl }

pub examples : Examples
unfolding int_wrap
examples = record {
  empty_program = record { spelled = record { read = refl; within = (omega arith, omega arith, tt); spelled = refl; placed = refl }; means = refl };
  empty_code = refl;
  loop_running = record { spelled = counting_spelled; means = refl };
  loop_at_lid = record { spelled = counting_spelled; means = refl };
  loop_ended = record { spelled = counting_spelled; means = refl };
  no_input = record { spelled = counting_spelled; means = refl };
  no_input_no_tick = record { spelled = counting_spelled; means = refl };
  from_the_left = record { spelled = printing_spelled (codes "7-2-3") _ (omega arith) refl refl; means = refl };
  squares_spelled = squares_spelled;
  squares_code = refl;
  minus_a_term = record { spelled = printing_spelled (codes "-7/2") _ (omega arith) refl refl; means = refl };
  quotient_down = record { spelled = printing_spelled (codes "(0-7)/2") _ (omega arith) refl refl; means = refl };
  remainder_up = record { spelled = printing_spelled (codes "(0-7)%2") _ (omega arith) refl refl; means = refl };
  past_strict = record { spelled = printing_spelled (codes "1073741823*2+2") _ (omega arith) refl refl; means = refl };
  past_wrapping = record { spelled = printing_spelled (codes "1073741823*2+2") _ (omega arith) refl refl; means = refl };
  past_clamped = record { spelled = printing_spelled (codes "1073741823*2+2") _ (omega arith) refl refl; means = refl };
  by_zero = record { spelled = printing_spelled (codes "1/0") _ (omega arith) refl refl; means = refl };
  unset_name = record { spelled = record { read = refl; within = (omega arith, omega arith, (tt, tt)); spelled = refl; placed = refl }; means = refl };
  no_room = record { spelled = printing_spelled (codes "1") _ (omega arith) refl refl; means = refl };
  loop_narrowed = refl;
  loop_places = refl;
  word_of_minus_one = refl;
  word_of_a_jump = refl;
  number_refused = refl;
  parenthesis_refused = refl;
}
