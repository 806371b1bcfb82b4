-- The laws of the stack, instruction by instruction.
use Rattle.std.proofs.Common.{◌≡◌, ℕ, zero, suc, ◌+◌, ◌-◌, ◌<◌, ◌≤◌, Bool, true, false, cond, eqb, ltb, List, [], ◌∷◌, ◌++◌, length, get_or, ℤ, pos, negsuc, ◌+ℤ◌, ◌-ℤ◌, ◌*ℤ◌, Some, None, Option, sym, refl, ap, ◌∙◌, arith, length-append}
use Rattle.std.proofs.lemmas.Bool.{cond-true, cond-false, lt-ltb, le-ltb}
use Rattle.code.specs.declared.Instruction.TheVariants.{Literal, Read, Write, Load, Store, Jump, JumpIfZero, Add, Subtract, Multiply, Divide, Modulo, Less, Equal, Unequal, Greater, AtMost, AtLeast}
use Rattle.code.specs.World.{World, plain, ArithmeticUnit}
use Rattle.code.specs.Division.{quotient, remainder, is_zero}
use Rattle.code.specs.Machine.{Step, moved, faulted, with_space, push, division, read_into, read, write, put, pop_two, execute}
use Rattle.code.specs.Stack.{over, Frame, TooFew, Full, Jumps}

over_cond : (deep : List ℤ) (b : Bool) (x y : Step) → cond b (over deep x) (over deep y) ≡ over deep (cond b x y)
over_cond deep true x y = refl
over_cond deep false x y = refl

push_over : (a : ℕ) (st deep : List ℤ) (w : World) (c : ℕ) (o : Option ℤ) → push a (st ++ deep) w c o ≡ over deep (push a st w c o)
push_over a st deep w c None = refl
push_over a st deep w c (Some v) = refl

division_over : (a : ℕ) (st deep : List ℤ) (w : World) (y : ℤ) (o : Option ℤ) → division a (st ++ deep) w y o ≡ over deep (division a st w y o)
division_over a st deep w y o =
    ap (λ (x : Step). cond (is_zero y) (faulted (plain 24) w) x) (push_over a st deep w 23 o)
    ∙ over_cond deep (is_zero y) (faulted (plain 24) w) (push a st w 23 o)

read_into_over : (n a : ℕ) (st deep : List ℤ) (w : World) (o : Option ℤ) → read_into n a (st ++ deep) w o ≡ over deep (read_into n a st w o)
read_into_over n a st deep w None = refl
read_into_over n a st deep w (Some v) = refl

read_over : (U : ArithmeticUnit) (n a : ℕ) (st deep : List ℤ) (w : World) (zs : List ℤ) → read U n a (st ++ deep) w zs ≡ over deep (read U n a st w zs)
read_over U n a st deep w [] = refl
read_over U n a st deep w (z ∷ zs) = read_into_over n a st deep _ (U.narrow z)

write_over : (a : ℕ) (st deep : List ℤ) (w : World) (o : Option ℤ) → write a (st ++ deep) w o ≡ over deep (write a st w o)
write_over a st deep w None = refl
write_over a st deep w (Some v) =
    over_cond deep (eqb w.tapes.room 0) (faulted (record { cause = 21; pinch = Some w.tapes.pinch }) w)
    (moved (suc a) st (put v w))

room_is : (st : List ℤ) → length st < 68 → (w : World) (x : Step) → with_space st w x ≡ x
room_is st h w x = cond-true (ltb (length st) 68) x (faulted (plain 26) w) (lt-ltb (length st) 68 h)

full_is : (st : List ℤ) → 68 ≤ length st → (w : World) (x : Step) → with_space st w x ≡ faulted (plain 26) w
full_is st h w x = cond-false (ltb (length st) 68) x (faulted (plain 26) w) (le-ltb (length st) 68 h)

with_space_over : (a : ℕ) (st deep : List ℤ) (w : World) (c : ℕ) (o : Option ℤ) → length st + length deep < 68 →
    with_space (st ++ deep) w (push a (st ++ deep) w c o) ≡ over deep (with_space st w (push a st w c o))
with_space_over a st deep w c o h =
    room_is (st ++ deep) (let e : length (st ++ deep) ≡ length st + length deep = length-append st deep in omega arith) w (push a (st ++ deep) w c o)
    ∙ push_over a st deep w c o
    ∙ ap (λ (x : Step). over deep x) (sym (room_is st (omega arith) w (push a st w c o)))

-- an instruction that takes two words goes on with them
two_over : (deep st : List ℤ) (w : World) (f : ℤ → ℤ → List ℤ → Step) → 2 ≤ length st → ((x y : ℤ) (r : List ℤ) → f x y (r ++ deep) ≡ over deep (f x y r)) → pop_two (st ++ deep) w f ≡ over deep (pop_two st w f)
two_over deep [] w f h e = absurd (omega arith)
two_over deep (y ∷ []) w f h e = absurd (omega arith)
two_over deep (y ∷ x ∷ st) w f h e = e x y st

pub frame : Frame
frame U (Read n) a st deep w h l = read_over U n a st deep w w.tapes.waiting
frame U (Write n) a st deep w h l = write_over a st deep w (get_or w.cells (n - 1) None)
frame U (Load n) a st deep w h l = with_space_over a st deep w 22 (get_or w.cells (n - 1) None) l
frame U (Store n) a [] deep w h l = absurd (omega arith)
frame U (Store n) a (v ∷ st) deep w h l = refl
frame U (Literal z) a st deep w h l = with_space_over a st deep w 23 (U.narrow z) l
frame U Add a st deep w h l = two_over deep st w _ h (λ x y r. push_over a r deep w 23 (U.narrow (x +ℤ y)))
frame U Multiply a st deep w h l = two_over deep st w _ h (λ x y r. push_over a r deep w 23 (U.narrow (x *ℤ y)))
frame U Subtract a st deep w h l = two_over deep st w _ h (λ x y r. push_over a r deep w 23 (U.narrow (x -ℤ y)))
frame U Divide a st deep w h l = two_over deep st w _ h (λ x y r. division_over a r deep w y (U.narrow (quotient x y)))
frame U Modulo a st deep w h l = two_over deep st w _ h (λ x y r. division_over a r deep w y (U.narrow (remainder x y)))
frame U Less a st deep w h l = two_over deep st w _ h (λ x y r. refl)
frame U Equal a st deep w h l = two_over deep st w _ h (λ x y r. refl)
frame U Unequal a st deep w h l = two_over deep st w _ h (λ x y r. refl)
frame U Greater a st deep w h l = two_over deep st w _ h (λ x y r. refl)
frame U AtMost a st deep w h l = two_over deep st w _ h (λ x y r. refl)
frame U AtLeast a st deep w h l = two_over deep st w _ h (λ x y r. refl)
frame U (Jump t) a st deep w h l = refl
frame U (JumpIfZero t) a [] deep w h l = absurd (omega arith)
frame U (JumpIfZero t) a (v ∷ st) deep w h l = refl

two_few : (st : List ℤ) (w : World) (f : ℤ → ℤ → List ℤ → Step) → length st < 2 → pop_two st w f ≡ faulted (plain 25) w
two_few [] w f h = refl
two_few (y ∷ []) w f h = refl
two_few (y ∷ x ∷ st) w f h = absurd (omega arith)

pub too_few : TooFew
too_few U (Read n) a st w h = absurd (omega arith)
too_few U (Write n) a st w h = absurd (omega arith)
too_few U (Load n) a st w h = absurd (omega arith)
too_few U (Literal z) a st w h = absurd (omega arith)
too_few U (Jump t) a st w h = absurd (omega arith)
too_few U (Store n) a [] w h = refl
too_few U (Store n) a (v ∷ st) w h = absurd (omega arith)
too_few U (JumpIfZero t) a [] w h = refl
too_few U (JumpIfZero t) a (v ∷ st) w h = absurd (omega arith)
too_few U Add a st w h = two_few st w _ h
too_few U Multiply a st w h = two_few st w _ h
too_few U Subtract a st w h = two_few st w _ h
too_few U Divide a st w h = two_few st w _ h
too_few U Modulo a st w h = two_few st w _ h
too_few U Less a st w h = two_few st w _ h
too_few U Equal a st w h = two_few st w _ h
too_few U Unequal a st w h = two_few st w _ h
too_few U Greater a st w h = two_few st w _ h
too_few U AtMost a st w h = two_few st w _ h
too_few U AtLeast a st w h = two_few st w _ h

pub full : Full
full U a st w h = ((λ z. full_is st h w (push a st w 23 (U.narrow z))), (λ n. full_is st h w (push a st w 22 (get_or w.cells (n - 1) None))))

pub jumps : Jumps
jumps U a t st w = (refl, elsewhere)
  where
    elsewhere : (v : ℤ) → (v ≡ pos 0 → ⊥) → execute U (JumpIfZero t) a (v ∷ st) w ≡ moved (suc a) st w
    elsewhere (pos zero) f = absurd (f refl)
    elsewhere (pos (suc n)) f = refl
    elsewhere (negsuc n) f = refl
