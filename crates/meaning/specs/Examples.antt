-- Worked examples, from the bytes of their sources.
--   source                   a source with these names declared and these statements
--   strict_unit, wrapping_unit, clamped_unit  the three units
--   Short, short             a report in short: written, steps, status, and a fault's place, cause and pinch
--   Meant                    a source spells a tree, and means this from some tapes with so many ticks under a lid
--   Prints                   the same of a source that assigns an expression to x and prints it
--   Examples                 what is worked out
use Rattle.std.specs.Prelude.{◌≡◌, ℕ, zero, suc, List, [], ◌∷◌, ◌++◌, ℤ, pos, negsuc, Some, None, codes, Option}
use Rattle.syntax.specs.declared.token.Relation.TheVariants as relation
use Rattle.syntax.specs.declared.token.Additive.TheVariants.{Plus, Minus}
use Rattle.syntax.specs.declared.token.Multiplicative.TheVariants.{Times, Divide, Modulo}
use Rattle.syntax.specs.Tokens.{Name}
use Rattle.code.specs.declared.Instruction.TheVariants as am
use Rattle.code.specs.Words.{word_of}
use Rattle.code.specs.World.{Tapes, Fault, Report, ArithmeticUnit}
use Rattle.units.specs.Narrowing.{minimum, maximum, strict, wrapping, clamped}
use Rattle.lexer.specs.Lex.{refused, answer}
use Rattle.grammar.specs.Grammar.{Expression, expression, bare, signed, term, Factor, variable, literal, paren, single, by, alone, and, test, assign, scan, print, loop, block, none, then, nomore, also, nothing, variables, ProgramTree, program}
use Rattle.grammar.specs.Automaton.{judge, start, wrong}
use Rattle.translator.specs.Linear.{instructions, places}
use Rattle.meaning.specs.Meaning.{meaning_of_program, initial, meaning}
use Rattle.meaning.specs.Promise.{code_of, narrowed}
use Rattle.meaning.specs.Sources.{tokens_of, program_of, Spells}

-- ---- Units and reports

abbrev pub strict_unit : ArithmeticUnit
strict_unit = record { least = minimum 32; greatest = maximum 32; narrow = strict (minimum 32) (maximum 32) }

abbrev pub wrapping_unit : ArithmeticUnit
wrapping_unit = record { least = minimum 32; greatest = maximum 32; narrow = wrapping }

abbrev pub clamped_unit : ArithmeticUnit
clamped_unit = record { least = minimum 16; greatest = maximum 16; narrow = clamped (minimum 16) (maximum 16) }

abbrev pub Short : Type 0
Short = List ℤ × ℕ × ℕ × Option (ℕ × ℕ × Option (ℕ × ℕ))

abbrev pub short_fault : Option (ℕ × Fault) → Option (ℕ × ℕ × Option (ℕ × ℕ))
short_fault None = None
short_fault (Some f) = Some (f.0, f.1.cause, f.1.pinch)

abbrev pub short : Report → Short
short r = (r.world.tapes.written, r.steps, r.status, short_fault r.fault)

-- nothing written yet, and a quota of 1,000
abbrev pub tapes : List ℤ → Tapes
tapes waiting = record { waiting = waiting; written = []; room = 1000; pinch = (0, 2) }

-- ---- Sources

abbrev pub source : List ℕ → List ℕ → List ℕ
source declared statements = codes "#include <stdio.h> int main(){" ++ (declared ++ (statements ++ codes "return 0;}"))

-- what a source with this parse tree means with n ticks under a lid
pub record Meant (U : ArithmeticUnit) (text : List ℕ) (tree : ProgramTree) (t : Tapes) (lid n : ℕ) (r : Short) : Type 0 where
  pub spelled : Spells text tree (program_of tree text)
  pub means : short (meaning U (program_of tree text) t lid n) ≡ r

-- a factor alone
abbrev pub only : Factor → Expression
only f = expression bare (term f single) alone

abbrev pub x : Name
x = codes "x"

-- x = … ; printf("%d", x);
abbrev pub printing : List ℕ → List ℕ
printing e = source (codes "int x;") (codes "x=" ++ (e ++ codes ";printf(\"%d\",x);"))

abbrev pub printing_tree : Expression → ProgramTree
printing_tree e = program (variables x nomore) (then (assign x e) (then (print x) none))

abbrev pub Prints : ArithmeticUnit → List ℕ → Expression → Short → Type 0
Prints U text e r = Meant U (printing text) (printing_tree e) (tapes []) 1000000 100 r

abbrev pub empty : List ℕ
empty = source [] []

-- counts c up by twos until it is no longer below t
abbrev pub counting : List ℕ
counting = source (codes "int t,c;") (codes "scanf(\"%d\",&t);c=0;while(c<t)c=c+2;printf(\"%d\",c);")

abbrev pub counting_tree : ProgramTree
counting_tree =
    let t : Name = codes "t" in
    let c : Name = codes "c" in
    program (variables t (also c nomore))
    (then (scan t)
    (then (assign c (only (literal 0)))
    (then (loop (test (only (variable c)) relation.Less (only (variable t)))
    (assign c (expression bare (term (variable c) single) (and Plus (term (literal 2) single) alone))))
    (then (print c) none))))

-- the sum of the first n squares
abbrev pub squares : List ℕ
squares = source (codes "int i,n,s;") (codes "scanf(\"%d\",&n);i=1;s=0;while(i<=n){s=s+i*i;i=i+1;}printf(\"%d\",s);")

abbrev pub squares_tree : ProgramTree
squares_tree =
    let i : Name = codes "i" in
    let n : Name = codes "n" in
    let s : Name = codes "s" in
    program (variables i (also n (also s nomore)))
    (then (scan n)
    (then (assign i (only (literal 1)))
    (then (assign s (only (literal 0)))
    (then (loop (test (only (variable i)) relation.AtMost (only (variable n)))
    (block (assign s (expression bare (term (variable s) single) (and Plus (term (variable i) (by Times (variable i) single)) alone)))
    (then (assign i (expression bare (term (variable i) single) (and Plus (term (literal 1) single) alone))) none)))
    (then (print s) none)))))

-- (0-7)
abbrev pub seven_below : Factor
seven_below = paren (expression bare (term (literal 0) single) (and Minus (term (literal 7) single) alone))

-- 1073741823*2+2
abbrev pub past_greatest : Expression
past_greatest = expression bare (term (literal 1073741823) (by Times (literal 2) single)) (and Plus (term (literal 2) single) alone)

-- so many open parentheses
abbrev pub opened : ℕ → List ℕ
opened zero = []
opened (suc n) = 40 ∷ opened n

-- printf("%d", x); and nothing else
abbrev pub unset : List ℕ
unset = source (codes "int x;") (codes "printf(\"%d\",x);")

-- ---- What is worked out

pub record Examples : Type 0 where
  -- no statements, no code; it has ended at lid 0
  pub empty_program : Meant strict_unit empty (program nothing none) (tapes []) 0 0 ([], 0, 1, None)
  pub empty_code : code_of (program_of (program nothing none) empty) ≡ []
  -- a loop that counts up to 4 takes 26 ticks; with 25 it is still running, and at its lid if that is 25
  pub loop_running : Meant strict_unit counting counting_tree (tapes (pos 3 ∷ [])) 1000000 25 ([], 25, 0, None)
  pub loop_at_lid : Meant strict_unit counting counting_tree (tapes (pos 3 ∷ [])) 25 25 ([], 25, 3, None)
  pub loop_ended : Meant strict_unit counting counting_tree (tapes (pos 3 ∷ [])) 1000000 26 (pos 4 ∷ [], 26, 1, None)
  -- without input: a fault at the name in scanf, before any step, but none where no tick is left
  pub no_input : Meant strict_unit counting counting_tree (tapes []) 1000000 26 ([], 0, 2, Some (50, 20, None))
  pub no_input_no_tick : Meant strict_unit counting counting_tree (tapes []) 0 0 ([], 0, 3, None)
  -- 7-2-3 is 2
  pub from_the_left : Prints strict_unit (codes "7-2-3")
      (expression bare (term (literal 7) single) (and Minus (term (literal 2) single) (and Minus (term (literal 3) single) alone)))
      (pos 2 ∷ [], 7, 1, None)
  -- the squares' code has 21 instructions
  pub squares_spelled : Spells squares squares_tree (program_of squares_tree squares)
  pub squares_code : instructions (code_of (program_of squares_tree squares)) ≡
      (am.Read 2 ∷ am.Literal (pos 1) ∷ am.Store 1 ∷ am.Literal (pos 0) ∷ am.Store 3 ∷ am.Load 1 ∷ am.Load 2 ∷ am.AtMost ∷ am.JumpIfZero 21
      ∷ am.Load 3 ∷ am.Load 1 ∷ am.Load 1 ∷ am.Multiply ∷ am.Add ∷ am.Store 3 ∷ am.Load 1 ∷ am.Literal (pos 1) ∷ am.Add ∷ am.Store 1 ∷ am.Jump 6
      ∷ am.Write 3 ∷ [])
  -- -7/2 is −3: the sign is for the whole term; (0-7)/2 is −4 and (0-7)%2 is 1: division rounds down
  pub minus_a_term : Prints strict_unit (codes "-7/2") (expression (signed Minus) (term (literal 7) (by Divide (literal 2) single)) alone)
      (negsuc 2 ∷ [], 7, 1, None)
  pub quotient_down : Prints strict_unit (codes "(0-7)/2") (expression bare (term seven_below (by Divide (literal 2) single)) alone)
      (negsuc 3 ∷ [], 7, 1, None)
  pub remainder_up : Prints strict_unit (codes "(0-7)%2") (expression bare (term seven_below (by Modulo (literal 2) single)) alone)
      (pos 1 ∷ [], 7, 1, None)
  -- one more than the greatest number: a fault at the `+`, the least number, or the greatest of 16 bits
  pub past_strict : Prints strict_unit (codes "1073741823*2+2") past_greatest ([], 4, 2, Some (50, 23, None))
  pub past_wrapping : Prints wrapping_unit (codes "1073741823*2+2") past_greatest (negsuc 2147483647 ∷ [], 7, 1, None)
  pub past_clamped : Prints clamped_unit (codes "1073741823*2+2") past_greatest (pos 32767 ∷ [], 7, 1, None)
  -- division by zero, a name without a number, an output without room
  pub by_zero : Prints strict_unit (codes "1/0") (expression bare (term (literal 1) (by Divide (literal 0) single)) alone)
      ([], 2, 2, Some (39, 24, None))
  pub unset_name : Meant strict_unit unset (program (variables x nomore) (then (print x) none)) (tapes []) 9 9 ([], 0, 2, Some (48, 22, None))
  pub no_room : Meant strict_unit (printing (codes "1")) (printing_tree (only (literal 1)))
      (record { waiting = []; written = pos 8 ∷ []; room = 0; pinch = (1, 2) }) 9 9 (pos 8 ∷ [], 2, 2, Some (52, 21, Some (1, 2)))
  -- what the loop has to narrow, latest first, and the places of its code
  pub loop_narrowed : narrowed (meaning_of_program strict_unit (program_of counting_tree counting) (initial (tapes (pos 3 ∷ [])) 26))
      ≡ (pos 4 ∷ pos 2 ∷ pos 2 ∷ pos 2 ∷ pos 0 ∷ pos 3 ∷ [])
  pub loop_places : places (code_of (program_of counting_tree counting)) ≡ (50 ∷ 55 ∷ 53 ∷ 63 ∷ 65 ∷ 64 ∷ 57 ∷ 69 ∷ 71 ∷ 70 ∷ 67 ∷ 57 ∷ 85 ∷ [])
  -- words
  pub word_of_minus_one : word_of (am.Literal (negsuc 0)) ≡ 0xFFFF_FFFF
  pub word_of_a_jump : word_of (am.JumpIfZero 13) ≡ 0x6800_000D
  -- a number too large is refused with 3, a 33rd open parenthesis with 5
  pub number_refused : answer (printing (codes "1073741824")) ≡ refused 3 38
  pub parenthesis_refused : judge (tokens_of (printing (opened 33 ++ codes "1"))) (start 31 32) ≡ wrong 5 70
