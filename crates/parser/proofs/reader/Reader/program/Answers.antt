use Rattle.std.proofs.Common.{[], ◌∷◌, ◌++◌, refl, ap, ◌∙◌}
use Rattle.syntax.specs.TreeOf.{statements_of}
use Rattle.grammar.specs.Kinds.{Semicolon, RightBrace}
use Rattle.grammar.specs.Automaton.{whole, body}
use Rattle.parser.specs.Readers.{tokens}
use Rattle.parser.proofs.Feeds.{gone}
use Rattle.parser.proofs.Declared.{program_spelled}
use Rattle.parser.proofs.reader.Reader.program.Goals as goal

pub returns-in_err-expect_all : goal.returns-in_err-expect_all
returns-in_err-expect_all c = record { reads = λ source. gone _ c.from_residual.result _ c.from_residual.ensures.1 refl (c.in_err-expect_all.ensures.reads source (body 32 31 ∷ [])) }

pub returns-in_err-declared : goal.returns-in_err-declared
returns-in_err-declared c = record {
  reads = λ source.
      gone _ c.from_residual-in_err-declared.result _ c.from_residual-in_err-declared.ensures.1
      (c.in_ok-expect_all.ensures.reads source (body 32 31 ∷ [])).0
      (c.in_err-declared.ensures.reads source []);
}

pub returns-in_err-statements : goal.returns-in_err-statements
returns-in_err-statements c = record {
  reads = λ source.
      gone _ c.from_residual-in_err-statements.result _ c.from_residual-in_err-statements.ensures.1
      ((c.in_ok-expect_all.ensures.reads source (body 32 31 ∷ [])).0 ∙ (c.in_ok-declared.ensures.reads source []).0)
      (c.in_err-statements.ensures.reads source (whole 31) [] refl refl);
}

pub returns-in_err-zero : goal.returns-in_err-zero
returns-in_err-zero c = record {
  reads = λ source.
      gone _ c.from_residual-in_err-zero.result _ c.from_residual-in_err-zero.ensures.1
      ((c.in_ok-expect_all.ensures.reads source (body 32 31 ∷ [])).0 ∙ (c.in_ok-declared.ensures.reads source []).0 ∙ (c.in_ok-statements.ensures.reads source (whole 31) [] refl refl).0)
      (c.in_err-zero.ensures.reads source (tokens (Semicolon ∷ (RightBrace ∷ [])) []));
}

pub returns-in_err-expect_all-2 : goal.returns-in_err-expect_all-2
returns-in_err-expect_all-2 c = record {
  reads = λ source.
      gone _ c.from_residual-in_err-expect_all-2.result _ c.from_residual-in_err-expect_all-2.ensures.1
      ((c.in_ok-expect_all.ensures.reads source (body 32 31 ∷ [])).0 ∙ (c.in_ok-declared.ensures.reads source []).0 ∙ (c.in_ok-statements.ensures.reads source (whole 31) [] refl refl).0
      ∙ (c.in_ok-zero.ensures.reads source (tokens (Semicolon ∷ (RightBrace ∷ [])) [])).0)
      (c.in_err-expect_all-2.ensures.reads source []);
}

pub returns : goal.returns
returns c = record {
  reads = λ source.
      let front = c.in_ok-expect_all.ensures.reads source (body 32 31 ∷ []) in
      let declared = c.in_ok-declared.ensures.reads source [] in
      let statements = c.in_ok-statements.ensures.reads source (whole 31) [] refl refl in
      let zero = c.in_ok-zero.ensures.reads source (tokens (Semicolon ∷ (RightBrace ∷ [])) []) in
      let back = c.in_ok-expect_all-2.ensures.reads source [] in
      let all = statements.1.all_are ∙ ap (λ l. l ++ statements.1.more) c.new-statements.ensures.items in (
        front.0 ∙ declared.0 ∙ statements.0 ∙ zero.0 ∙ back.0,
        program_spelled (ap (statements_of source) all) front.1 declared.1 statements.1.spelled zero.1 back.1,
      );
}
