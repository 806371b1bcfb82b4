-- The machine AM: counter, stack, cells and tapes; one step, an advance, and finishing.
--   Step         what one instruction does: it goes to a counter, a stack and a world, or faults
--   execute      one instruction, at an address, on a stack and a world
--   Run          a run's state; a fault comes with its address
--   start        a new run: no step, no fault, all cells unset, an empty stack and counter 1
--   once         one step, or nothing once the run has faulted or ended
--   moves        so many steps
--   advance      up to an allowance of steps, and never past the lid
--   status       2 faulted, 1 ended, 3 steps equal the lid, 0 running
--   finish       what is told of a run, with the fault's address turned into its place by the place list
use Rattle.std.specs.Prelude.{ℕ, zero, suc, ◌-◌, min, cond, List, [], ◌∷◌, ◌++◌, length, replicate, ℤ, pos, negsuc, ◌+ℤ◌, ◌-ℤ◌, ◌*ℤ◌, Some, None, Option, ◌==◌, nat_lt, slice_index_or, slice_set}
use Rattle.code.specs.declared.Instruction.{Instruction}
use Rattle.code.specs.declared.Instruction.TheVariants.{Literal, Read, Write, Load, Store, Jump, JumpIfZero, Add, Subtract, Multiply, Divide, Modulo, Less, Equal, Unequal, Greater, AtMost, AtLeast}
use Rattle.code.specs.Division.{quotient, remainder, is_zero}
use Rattle.code.specs.World.{Tapes, World, Fault, plain, Report, ArithmeticUnit}

pub data Step : Type 0 where
  moved : ℕ → List ℤ → World → Step
  faulted : Fault → World → Step

-- 26 if the stack is full (68 words)
abbrev pub with_space : List ℤ → World → Step → Step
with_space st w x = cond (nat_lt (length st) 68) x (faulted (plain 26) w)

-- 25 if there are fewer than one or two words; the upper one is the right operand
abbrev pub pop_one : List ℤ → World → (ℤ → List ℤ → Step) → Step
pop_one [] w f = faulted (plain 25) w
pop_one (v ∷ st) w f = f v st

abbrev pub pop_two : List ℤ → World → (ℤ → ℤ → List ℤ → Step) → Step
pop_two [] w f = faulted (plain 25) w
pop_two (y ∷ []) w f = faulted (plain 25) w
pop_two (y ∷ x ∷ st) w f = f x y st

-- a number or a cell's content goes onto the stack, or nothing came and it is that fault
abbrev pub push : ℕ → List ℤ → World → ℕ → Option ℤ → Step
push a st w c None = faulted (plain c) w
push a st w c (Some v) = moved (suc a) (v ∷ st) w

abbrev pub division : ℕ → List ℤ → World → ℤ → Option ℤ → Step
division a st w y o = cond (is_zero y) (faulted (plain 24) w) (push a st w 23 o)

-- a comparison gives 1 or 0, by the sign of the difference: below 0, 0, above 0
abbrev pub by_sign : ℕ → ℕ → ℕ → ℤ → ℤ
by_sign l e g (negsuc n) = pos l
by_sign l e g (pos zero) = pos e
by_sign l e g (pos (suc n)) = pos g

abbrev pub comparison : ℕ → List ℤ → World → ℤ → Step
comparison a st w v = moved (suc a) (v ∷ st) w

abbrev pub store : ℕ → ℤ → World → World
store n v w = record { cells = slice_set w.cells (n - 1) (Some v); tapes = w.tapes }

-- READ: the first waiting number leaves the tape for the cell, also where it doesn't narrow
abbrev pub read_into : ℕ → ℕ → List ℤ → World → Option ℤ → Step
read_into n a st w None = faulted (plain 23) w
read_into n a st w (Some v) = moved (suc a) st (store n v w)

abbrev pub taken : List ℤ → World → World
taken zs w = record {
  cells = w.cells;
  tapes = record {
    waiting = zs;
    written = w.tapes.written;
    room = w.tapes.room;
    pinch = w.tapes.pinch;
  };
}

abbrev pub read : ArithmeticUnit → ℕ → ℕ → List ℤ → World → List ℤ → Step
read U n a st w [] = faulted (plain 20) w
read U n a st w (z ∷ zs) = read_into n a st (taken zs w) (U.narrow z)

-- WRITE: the cell's content is put on the output tape, which refuses at room 0
abbrev pub put : ℤ → World → World
put v w = record {
  cells = w.cells;
  tapes = record {
    waiting = w.tapes.waiting;
    written = w.tapes.written ++ (v ∷ []);
    room = w.tapes.room - 1;
    pinch = w.tapes.pinch;
  };
}

abbrev pub write : ℕ → List ℤ → World → Option ℤ → Step
write a st w None = faulted (plain 22) w
write a st w (Some v) =
    cond (w.tapes.room == 0) (faulted (record { cause = 21; pinch = Some w.tapes.pinch }) w) (moved (suc a) st (put v w))

-- JMC jumps exactly on 0
abbrev pub branch : ℕ → ℕ → ℤ → ℕ
branch t a v = cond (is_zero v) t (suc a)

abbrev pub execute : ArithmeticUnit → Instruction → ℕ → List ℤ → World → Step
execute U (Read n) a st w = read U n a st w w.tapes.waiting
execute U (Write n) a st w = write a st w (slice_index_or w.cells (n - 1) None)
execute U (Load n) a st w = with_space st w (push a st w 22 (slice_index_or w.cells (n - 1) None))
execute U (Store n) a st w = pop_one st w (λ v r. moved (suc a) r (store n v w))
execute U (Literal z) a st w = with_space st w (push a st w 23 (U.narrow z))
execute U Add a st w = pop_two st w (λ x y r. push a r w 23 (U.narrow (x +ℤ y)))
execute U Subtract a st w = pop_two st w (λ x y r. push a r w 23 (U.narrow (x -ℤ y)))
execute U Multiply a st w = pop_two st w (λ x y r. push a r w 23 (U.narrow (x *ℤ y)))
execute U Divide a st w = pop_two st w (λ x y r. division a r w y (U.narrow (quotient x y)))
execute U Modulo a st w = pop_two st w (λ x y r. division a r w y (U.narrow (remainder x y)))
execute U Less a st w = pop_two st w (λ x y r. comparison a r w (by_sign 1 0 0 (x -ℤ y)))
execute U Equal a st w = pop_two st w (λ x y r. comparison a r w (by_sign 0 1 0 (x -ℤ y)))
execute U Unequal a st w = pop_two st w (λ x y r. comparison a r w (by_sign 1 0 1 (x -ℤ y)))
execute U Greater a st w = pop_two st w (λ x y r. comparison a r w (by_sign 0 0 1 (x -ℤ y)))
execute U AtMost a st w = pop_two st w (λ x y r. comparison a r w (by_sign 1 1 0 (x -ℤ y)))
execute U AtLeast a st w = pop_two st w (λ x y r. comparison a r w (by_sign 0 1 1 (x -ℤ y)))
execute U (Jump t) a st w = moved t st w
execute U (JumpIfZero t) a st w = pop_one st w (λ v r. moved (branch t a v) r w)

-- what stands at a place of a list, from 0, and at an address, from 1
abbrev pub nth : {A : Type 0} → List A → ℕ → Option A
nth [] k = None
nth (x ∷ xs) zero = Some x
nth (x ∷ xs) (suc k) = nth xs k

abbrev pub fetch : {A : Type 0} → List A → ℕ → Option A
fetch xs zero = None
fetch xs (suc k) = nth xs k

pub record Run : Type 0 where
  pub counter : ℕ
  pub stack : List ℤ
  pub world : World
  pub steps : ℕ
  pub fault : Option (ℕ × Fault)

abbrev pub start : Tapes → Run
start t = record { counter = 1; stack = []; world = record { cells = replicate 64 None; tapes = t }; steps = 0; fault = None }

abbrev pub stepped : Run → Step → Run
stepped m (moved a st w) = record { counter = a; stack = st; world = w; steps = suc m.steps; fault = None }
stepped m (faulted f w) = record { counter = m.counter; stack = m.stack; world = w; steps = m.steps; fault = Some (m.counter, f) }

abbrev pub once_with : ArithmeticUnit → Run → Option (ℕ × Fault) → Option Instruction → Run
once_with U m (Some f) i = m
once_with U m None None = m
once_with U m None (Some i) = stepped m (execute U i m.counter m.stack m.world)

abbrev pub once : ArithmeticUnit → List Instruction → Run → Run
once U code m = once_with U m m.fault (fetch code m.counter)

abbrev pub moves : ArithmeticUnit → List Instruction → ℕ → Run → Run
moves U code zero m = m
moves U code (suc n) m = moves U code n (once U code m)

abbrev pub advance : ArithmeticUnit → List Instruction → ℕ → ℕ → Run → Run
advance U code lid n m = moves U code (min n (lid - m.steps)) m

abbrev pub status_with : ℕ → ℕ → Option (ℕ × Fault) → Option Instruction → ℕ
status_with lid n (Some f) i = 2
status_with lid n None None = 1
status_with lid n None (Some i) = cond (n == lid) 3 0

abbrev pub status : ℕ → List Instruction → Run → ℕ
status lid code m = status_with lid m.steps m.fault (fetch code m.counter)

-- the place at an address
abbrev pub or_zero : Option ℕ → ℕ
or_zero None = 0
or_zero (Some p) = p

abbrev pub placed : List ℕ → Option (ℕ × Fault) → Option (ℕ × Fault)
placed ps None = None
placed ps (Some f) = Some (or_zero (fetch ps f.0), f.1)

abbrev pub finish : ℕ → List Instruction → List ℕ → Run → Report
finish lid code ps m = record { world = m.world; steps = m.steps; status = status lid code m; fault = placed ps m.fault }
