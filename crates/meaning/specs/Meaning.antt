-- What a source means with N ticks, over its syntax tree. There is no code here, no address and no machine step.
--   State        how it stands: cells and tapes, the ticks left, and the numbers that had to be narrowed so far
--   Outcome      it goes on with a value, stops for want of a tick, or fails at a token
--   Meaning      what a piece means: the outcome from each state
--   Act          what one act comes to, before its tick is paid
--   act          one act at a token: the tick, then the fault or the deed
--   exact, value_of_name, sum, product, compared, assigned, scanned, printed, unchanged  the acts, each by its rule
--   holds        whether a relation holds of two numbers
--   meaning_of_… what each piece means: its acts in their order
--   rounds       at most so many rounds of a loop
--   initial      the state at the start
--   cell_by      the cell of a name by the declaration; 0 for a name that is not declared
--   reported     what is told of an outcome
--   meaning      what a program means with so many ticks under a lid: its report
use Rattle.std.specs.Prelude.{ℕ, zero, suc, ◌-◌, Bool, false, cond, not, List, [], ◌∷◌, ◌++◌, replicate, ℤ, pos, negsuc, ◌+ℤ◌, ◌-ℤ◌, ◌*ℤ◌, Some, None, Option, ◌==◌, int_le, int_lt, slice_index_or, slice_set}
use Rattle.syntax.specs.declared.token.Relation.{Relation}
use Rattle.syntax.specs.declared.token.Relation.TheVariants.{Equal, Unequal, Less, Greater, AtMost, AtLeast}
use Rattle.syntax.specs.declared.token.Additive.{Additive}
use Rattle.syntax.specs.declared.token.Additive.TheVariants.{Plus, Minus}
use Rattle.syntax.specs.declared.token.Multiplicative.{Multiplicative}
use Rattle.syntax.specs.declared.token.Multiplicative.TheVariants.{Times, Divide, Modulo}
use Rattle.syntax.specs.Tokens.{Name}
use Rattle.syntax.specs.Trees.{Expression, first, minus, more, Term, one, times, Factor, name, number, paren, Condition, test, Statement, assign, scan, print, when, either, while, block, Statements, none, then, Program}
use Rattle.names.specs.Cells.{cell_of}
use Rattle.code.specs.Division.{quotient}
use Rattle.code.specs.World.{Tapes, World, Fault, plain, Report, ArithmeticUnit}

-- ---- How it stands

-- The numbers that had to be narrowed are kept for the promise about another unit, latest first.
pub record State : Type 0 where
  pub world : World
  pub left : ℕ
  pub narrowings : List ℤ

pub data Outcome (A : Type 0) : Type 0 where
  goes_on : A → State → Outcome A
  stops : State → Outcome A
  fails : ℕ → Fault → State → Outcome A

abbrev pub Meaning : Type 0 → Type 0
Meaning A = State → Outcome A

-- ---- Every act

-- An act gives a value, faults, or narrows a number: then there is a world for when nothing comes, and value and world for what comes.
pub data Act (A : Type 0) : Type 0 where
  gives : A → World → Act A
  faults : Fault → World → Act A
  narrows : ℤ → World → (ℤ → A) → (ℤ → World) → Act A

-- Fault 23 if nothing comes of narrowing.
abbrev pub narrowed_to : {A : Type 0} → ℕ → World → (ℤ → A) → (ℤ → World) → ℕ → List ℤ → Option ℤ → Outcome A
narrowed_to p w value world n zs None = fails p (plain 23) (record { world = w; left = suc n; narrowings = zs })
narrowed_to p w value world n zs (Some v) = goes_on (value v) (record { world = world v; left = n; narrowings = zs })

-- Each act first asks for a tick: with none left the meaning stops, running. Then a fault stops it at that act's token, taking
-- no tick. Otherwise one tick goes and the act is done.
abbrev pub with_tick : {A : Type 0} → ArithmeticUnit → ℕ → State → ℕ → Act A → Outcome A
with_tick U p s zero x = stops s
with_tick U p s (suc n) (gives v w) = goes_on v (record { world = w; left = n; narrowings = s.narrowings })
with_tick U p s (suc n) (faults f w) = fails p f (record { world = w; left = suc n; narrowings = s.narrowings })
with_tick U p s (suc n) (narrows z w value world) = narrowed_to p w value world n (z ∷ s.narrowings) (U.narrow z)

abbrev pub act : {A : Type 0} → ArithmeticUnit → ℕ → (World → Act A) → Meaning A
act U p f s = with_tick U p s s.left (f s.world)

-- ---- Each act

-- A number, or an exact result, narrows.
abbrev pub exact : ℤ → World → Act ℤ
exact z w = narrows z w (λ v. v) (λ v. w)

-- A name gives its cell: 22 if unset.
abbrev pub content : Option ℤ → World → Act ℤ
content None w = faults (plain 22) w
content (Some v) w = gives v w

abbrev pub value_of_name : ℕ → World → Act ℤ
value_of_name n w = content (slice_index_or w.cells (n - 1) None) w

-- 24 for `/` or `%` by zero; otherwise the exact result narrows.
abbrev pub divided : ℤ → ℤ → World → Act ℤ
divided (pos zero) z w = faults (plain 24) w
divided (pos (suc n)) z w = exact z w
divided (negsuc n) z w = exact z w

abbrev pub sum : Additive → ℤ → ℤ → World → Act ℤ
sum Plus a b w = exact (a +ℤ b) w
sum Minus a b w = exact (a -ℤ b) w

-- `/` is the greatest whole number not above the quotient, and a % b is a − b × (a / b).
abbrev pub product : Multiplicative → ℤ → ℤ → World → Act ℤ
product Times a b w = exact (a *ℤ b) w
product Divide a b w = divided b (quotient a b) w
product Modulo a b w = divided b (a -ℤ (b *ℤ quotient a b)) w

abbrev pub equal : ℤ → ℤ → Bool
equal (pos a) (pos b) = a == b
equal (pos a) (negsuc b) = false
equal (negsuc a) (pos b) = false
equal (negsuc a) (negsuc b) = a == b

abbrev pub holds : Relation → ℤ → ℤ → Bool
holds Equal a b = equal a b
holds Unequal a b = not (equal a b)
holds Less a b = int_lt a b
holds Greater a b = int_lt b a
holds AtMost a b = int_le a b
holds AtLeast a b = int_le b a

-- The act of a condition never faults.
abbrev pub compared : Relation → ℤ → ℤ → World → Act Bool
compared r a b w = gives (holds r a b) w

-- The act of an assignment fills the cell.
abbrev pub filled : ℕ → ℤ → List (Option ℤ) → Tapes → World
filled n v cells tapes = record { cells = slice_set cells (n - 1) (Some v); tapes = tapes }

abbrev pub assigned : ℕ → ℤ → World → Act (Unit {0})
assigned n v w = gives tt (filled n v w.cells w.tapes)

-- scanf: 20 if none waits; 23 if the number doesn't narrow, and then it has left the tape; otherwise it fills the cell.
abbrev pub still_waiting : List ℤ → Tapes → Tapes
still_waiting zs t = record { waiting = zs; written = t.written; room = t.room; pinch = t.pinch }

abbrev pub scanned_from : ℕ → List ℤ → World → Act (Unit {0})
scanned_from n [] w = faults (plain 20) w
scanned_from n (z ∷ zs) w =
    narrows z (record { cells = w.cells; tapes = still_waiting zs w.tapes }) (λ v. tt)
    (λ v. filled n v w.cells (still_waiting zs w.tapes))

abbrev pub scanned : ℕ → World → Act (Unit {0})
scanned n w = scanned_from n w.tapes.waiting w

-- printf: 22, then 21 with the pinch if the room is 0; otherwise it appends and lowers the room by one.
abbrev pub appended : Option ℤ → ℕ → World → Act (Unit {0})
appended None room w = faults (plain 22) w
appended (Some v) zero w = faults (record { cause = 21; pinch = Some w.tapes.pinch }) w
appended (Some v) (suc room) w = gives tt (record {
  cells = w.cells;
  tapes = record {
    waiting = w.tapes.waiting;
    written = w.tapes.written ++ (v ∷ []);
    room = room;
    pinch = w.tapes.pinch;
  };
})

abbrev pub printed : ℕ → World → Act (Unit {0})
printed n w = appended (slice_index_or w.cells (n - 1) None) w.tapes.room w

-- The acts of `if`, `else` and `while` alter nothing.
abbrev pub unchanged : World → Act (Unit {0})
unchanged w = gives tt w

-- ---- The acts of a source, in their order

abbrev pub bind : {A B : Type 0} → Outcome A → (A → Meaning B) → Outcome B
bind (goes_on v s) f = f v s
bind (stops s) f = stops s
bind (fails p c s) f = fails p c s

infixl 40 ◌>>=◌ ◌>>◌
abbrev pub ◌>>=◌ : {A B : Type 0} → Meaning A → (A → Meaning B) → Meaning B
◌>>=◌ m f = λ s. bind (m s) f

abbrev pub ◌>>◌ : {A B : Type 0} → Meaning A → Meaning B → Meaning B
◌>>◌ m m' = λ s. bind (m s) (λ _. m')

-- At most k rounds of a loop: the condition, one act, and where it holds the body and one act more.
abbrev pub rounds : ArithmeticUnit → ℕ → Meaning Bool → Meaning (Unit {0}) → ℕ → Meaning (Unit {0})
rounds U p condition body zero = stops
rounds U p condition body (suc k) = do
  true? ← condition
  act U p unchanged
  cond true? (do
    body
    act U p unchanged
    rounds U p condition body k) (goes_on tt)

module _ {N : Type 0} (cell : N → ℕ) (U : ArithmeticUnit) where
  abbrev mutual
    -- Operands go left to right, then the operator is an act. A leading `-` is two acts after the first term, −1 and then the product.
    pub meaning_of_expression : Expression N → Meaning ℤ
    meaning_of_expression (first t) = meaning_of_term t
    meaning_of_expression (minus p t) = do
      v ← meaning_of_term t
      m ← act U p (exact (negsuc 0))
      act U p (product Times v m)
    meaning_of_expression (more e o p t) = do
      a ← meaning_of_expression e
      b ← meaning_of_term t
      act U p (sum o a b)

    pub meaning_of_term : Term N → Meaning ℤ
    meaning_of_term (one f) = meaning_of_factor f
    meaning_of_term (times t o p f) = do
      a ← meaning_of_term t
      b ← meaning_of_factor f
      act U p (product o a b)

    pub meaning_of_factor : Factor N → Meaning ℤ
    meaning_of_factor (name x p) = act U p (value_of_name (cell x))
    meaning_of_factor (number z p) = act U p (exact (pos z))
    meaning_of_factor (paren e) = meaning_of_expression e

  -- A condition is its operands and one act.
  abbrev pub meaning_of_condition : Condition N → Meaning Bool
  meaning_of_condition (test l r p e) = do
    a ← meaning_of_expression l
    b ← meaning_of_expression e
    act U p (compared r a b)

  abbrev mutual
    -- `if` and `while` have one act after the condition; a first branch with `else` has one more at its end.
    -- (A round takes a tick at least, so no loop makes more rounds than there are ticks left.)
    pub meaning_of_statement : Statement N → Meaning (Unit {0})
    meaning_of_statement (assign x p e) = do
      v ← meaning_of_expression e
      act U p (assigned (cell x) v)
    meaning_of_statement (scan x p) = act U p (scanned (cell x))
    meaning_of_statement (print x p) = act U p (printed (cell x))
    meaning_of_statement (when p c b) = do
      true? ← meaning_of_condition c
      act U p unchanged
      cond true? (meaning_of_statement b) (goes_on tt)
    meaning_of_statement (either p c b q b') = do
      true? ← meaning_of_condition c
      act U p unchanged
      cond true? (do
        meaning_of_statement b
        act U q unchanged) (meaning_of_statement b')
    meaning_of_statement (while p c b) = λ s. rounds U p (meaning_of_condition c) (meaning_of_statement b) (suc s.left) s
    meaning_of_statement (block ss) = meaning_of_statements ss

    pub meaning_of_statements : Statements N → Meaning (Unit {0})
    meaning_of_statements none = goes_on tt
    meaning_of_statements (then b ss) = do
      meaning_of_statement b
      meaning_of_statements ss

-- ---- What is told

-- All cells start unset.
abbrev pub initial : Tapes → ℕ → State
initial t n = record { world = record { cells = replicate 64 None; tapes = t }; left = n; narrowings = [] }

-- Ended, it has status 1; faulted, 2; left running, 3 if N is the lid, otherwise 0. Its steps are the ticks gone: all of them, if it
-- stopped for want of one.
abbrev pub reported : ℕ → ℕ → Outcome (Unit {0}) → Report
reported lid n (goes_on v s) = record { world = s.world; steps = n - s.left; status = 1; fault = None }
reported lid n (stops s) = record { world = s.world; steps = n; status = cond (n == lid) 3 0; fault = None }
reported lid n (fails p f s) = record { world = s.world; steps = n - s.left; status = 2; fault = Some (p, f) }

-- Names have the cells 1, 2, … in the order of their declaration. (An accepted source uses no other name.)
abbrev pub numbered : Option ℕ → ℕ
numbered None = 0
numbered (Some n) = n

abbrev pub cell_by : List (Name × ℕ) → Name → ℕ
cell_by declared x = numbered (cell_of declared x)

abbrev pub meaning_of_program : ArithmeticUnit → Program Name → Meaning (Unit {0})
meaning_of_program U p = meaning_of_statements (cell_by p.declared) U p.statements

-- With n ticks under a lid, from both tapes as they stand at the start.
abbrev pub meaning : ArithmeticUnit → Program Name → Tapes → ℕ → ℕ → Report
meaning U p t lid n = reported lid n (meaning_of_program U p (initial t n))
