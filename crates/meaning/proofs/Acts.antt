-- An instruction's step is what the meaning's act comes to.
use Rattle.std.proofs.Common.{◌≡◌, ℕ, zero, suc, ◌-◌, Bool, true, false, cond, not, T, eqb, List, [], ◌∷◌, ◌++◌, get_or, ℤ, pos, negsuc, ◌+ℤ◌, ◌-ℤ◌, ◌*ℤ◌, Some, None, Option, sym, refl, ap, ◌∙◌, subst, arith, eqb→eq}
use borrow.Author.Differences.{ints}
use lib.Dec.{eqb_refl}
use lib.Signed.{lt_z, le_z}
use Rattle.syntax.specs.declared.token.Relation.{Relation}
use Rattle.syntax.specs.declared.token.Relation.TheVariants.{Equal, Unequal, Less, Greater, AtMost, AtLeast}
use Rattle.syntax.specs.declared.token.Additive.{Additive}
use Rattle.syntax.specs.declared.token.Additive.TheVariants.{Plus, Minus}
use Rattle.syntax.specs.declared.token.Multiplicative.{Multiplicative}
use Rattle.syntax.specs.declared.token.Multiplicative.TheVariants.{Times, Divide, Modulo}
use Rattle.code.specs.declared.Instruction.TheVariants.{Read, Write}
use Rattle.code.specs.Division.{quotient, remainder}
use Rattle.code.specs.World.{World, ArithmeticUnit}
use Rattle.code.specs.Machine.{Step, moved, faulted, push, by_sign, comparison, taken, read_into, read, write, execute}
use Rattle.translator.specs.Linear.{code_of_sum, code_of_product, code_of_relation}
use Rattle.meaning.specs.Meaning.{content, sum, product, equal, holds, compared, filled, scanned_from, scanned, appended, printed}
use Rattle.meaning.proofs.Booleans.{is_true, is_false}
use Rattle.meaning.proofs.Results.{come, settle}
use Rattle.meaning.proofs.Finals.{step_of}

-- ---- comparisons

-- what a comparison leaves on the stack
abbrev pub truth : Bool → ℤ
truth b = cond b (pos 1) (pos 0)

equal_T : (x y : ℤ) → T (equal x y) → x ≡ y
equal_T (pos a) (pos b) t = ap pos (eqb→eq a b t)
equal_T (pos a) (negsuc b) t = absurd t
equal_T (negsuc a) (pos b) t = absurd t
equal_T (negsuc a) (negsuc b) t = ap negsuc (eqb→eq a b t)

equal_refl : (x : ℤ) → T (equal x x)
equal_refl (pos a) = eqb_refl a
equal_refl (negsuc a) = eqb_refl a

equal_yes : (x y : ℤ) → x -ℤ y ≡ pos 0 → equal x y ≡ true
equal_yes x y e =
    let s : x ≡ y = omega (arith, ints) in
    is_true (equal x y) (subst (λ (z : ℤ). T (equal x z)) s (equal_refl x))

equal_no : (x y : ℤ) → (x ≡ y → ⊥) → equal x y ≡ false
equal_no x y f = is_false (equal x y) (λ t. f (equal_T x y t))

below : (x y : ℤ) (n : ℕ) → x -ℤ y ≡ negsuc n → x ≡ y → ⊥
below x y n e s = omega (arith, ints)

above : (x y : ℤ) (n : ℕ) → x -ℤ y ≡ pos (suc n) → x ≡ y → ⊥
above x y n e s = omega (arith, ints)

abbrev signs : Relation → ℤ → ℤ
signs Equal d = by_sign 0 1 0 d
signs Unequal d = by_sign 1 0 1 d
signs Less d = by_sign 1 0 0 d
signs Greater d = by_sign 0 0 1 d
signs AtMost d = by_sign 1 1 0 d
signs AtLeast d = by_sign 0 1 1 d

by_order : (r : Relation) (x y d : ℤ) → x -ℤ y ≡ d → signs r d ≡ truth (holds r x y)
by_order Equal x y (negsuc n) e = ap truth (sym (equal_no x y (below x y n e)))
by_order Equal x y (pos zero) e = ap truth (sym (equal_yes x y e))
by_order Equal x y (pos (suc n)) e = ap truth (sym (equal_no x y (above x y n e)))
by_order Unequal x y (negsuc n) e = ap (λ (b : Bool). truth (not b)) (sym (equal_no x y (below x y n e)))
by_order Unequal x y (pos zero) e = ap (λ (b : Bool). truth (not b)) (sym (equal_yes x y e))
by_order Unequal x y (pos (suc n)) e = ap (λ (b : Bool). truth (not b)) (sym (equal_no x y (above x y n e)))
by_order Less x y (negsuc n) e = let h : true ≡ lt_z x y = omega (arith, ints) in ap truth h
by_order Less x y (pos zero) e = let h : false ≡ lt_z x y = omega (arith, ints) in ap truth h
by_order Less x y (pos (suc n)) e = let h : false ≡ lt_z x y = omega (arith, ints) in ap truth h
by_order Greater x y (negsuc n) e = let h : false ≡ lt_z y x = omega (arith, ints) in ap truth h
by_order Greater x y (pos zero) e = let h : false ≡ lt_z y x = omega (arith, ints) in ap truth h
by_order Greater x y (pos (suc n)) e = let h : true ≡ lt_z y x = omega (arith, ints) in ap truth h
by_order AtMost x y (negsuc n) e = let h : true ≡ le_z x y = omega (arith, ints) in ap truth h
by_order AtMost x y (pos zero) e = let h : true ≡ le_z x y = omega (arith, ints) in ap truth h
by_order AtMost x y (pos (suc n)) e = let h : false ≡ le_z x y = omega (arith, ints) in ap truth h
by_order AtLeast x y (negsuc n) e = let h : false ≡ le_z y x = omega (arith, ints) in ap truth h
by_order AtLeast x y (pos zero) e = let h : true ≡ le_z y x = omega (arith, ints) in ap truth h
by_order AtLeast x y (pos (suc n)) e = let h : true ≡ le_z y x = omega (arith, ints) in ap truth h

-- ---- steps

pub push_is : (a : ℕ) (st : List ℤ) (w : World) (o : Option ℤ) →
    push a st w 23 o ≡ step_of (λ v. suc a) (λ v. v ∷ st) (come w (λ v. v) (λ v. w) o)
push_is a st w None = refl
push_is a st w (Some v) = refl

module _ (U : ArithmeticUnit) where
  pub load_is : (a : ℕ) (st : List ℤ) (w : World) (o : Option ℤ) →
      push a st w 22 o ≡ step_of (λ v. suc a) (λ v. v ∷ st) (settle U (content o w))
  load_is a st w None = refl
  load_is a st w (Some v) = refl

  pub sum_is : (o : Additive) (a : ℕ) (x y : ℤ) (st : List ℤ) (w : World) →
      execute U (code_of_sum o) a (y ∷ x ∷ st) w ≡ step_of (λ v. suc a) (λ v. v ∷ st) (settle U (sum o x y w))
  sum_is Plus a x y st w = push_is a st w (U.narrow (x +ℤ y))
  sum_is Minus a x y st w = push_is a st w (U.narrow (x -ℤ y))

  pub product_is : (o : Multiplicative) (a : ℕ) (x y : ℤ) (st : List ℤ) (w : World) →
      execute U (code_of_product o) a (y ∷ x ∷ st) w ≡ step_of (λ v. suc a) (λ v. v ∷ st) (settle U (product o x y w))
  product_is Times a x y st w = push_is a st w (U.narrow (x *ℤ y))
  product_is Divide a x (pos zero) st w = refl
  product_is Divide a x (pos (suc n)) st w = push_is a st w (U.narrow (quotient x (pos (suc n))))
  product_is Divide a x (negsuc n) st w = push_is a st w (U.narrow (quotient x (negsuc n)))
  product_is Modulo a x (pos zero) st w = refl
  product_is Modulo a x (pos (suc n)) st w = push_is a st w (U.narrow (remainder x (pos (suc n))))
  product_is Modulo a x (negsuc n) st w = push_is a st w (U.narrow (remainder x (negsuc n)))

  relation_by_sign : (r : Relation) (a : ℕ) (x y : ℤ) (st : List ℤ) (w : World) →
      execute U (code_of_relation r) a (y ∷ x ∷ st) w ≡ comparison a st w (signs r (x -ℤ y))
  relation_by_sign Equal a x y st w = refl
  relation_by_sign Unequal a x y st w = refl
  relation_by_sign Less a x y st w = refl
  relation_by_sign Greater a x y st w = refl
  relation_by_sign AtMost a x y st w = refl
  relation_by_sign AtLeast a x y st w = refl

  pub relation_is : (r : Relation) (a : ℕ) (x y : ℤ) (st : List ℤ) (w : World) →
      execute U (code_of_relation r) a (y ∷ x ∷ st) w ≡ step_of (λ v. suc a) (λ v. truth v ∷ st) (settle U (compared r x y w))
  relation_is r a x y st w = relation_by_sign r a x y st w ∙ ap (λ (z : ℤ). comparison a st w z) (by_order r x y (x -ℤ y) refl)

  read_in_is : (n a : ℕ) (st : List ℤ) (w : World) (o : Option ℤ) →
      read_into n a st w o ≡ step_of (λ _. suc a) (λ _. st) (come {A = Unit {0}} w (λ v. tt) (λ v. filled n v w.cells w.tapes) o)
  read_in_is n a st w None = refl
  read_in_is n a st w (Some v) = refl

  read_is : (n a : ℕ) (st : List ℤ) (w : World) (zs : List ℤ) →
      read U n a st w zs ≡ step_of (λ _. suc a) (λ _. st) (settle U (scanned_from n zs w))
  read_is n a st w [] = refl
  read_is n a st w (z ∷ zs) = read_in_is n a st (taken zs w) (U.narrow z)

  pub scan_is : (n a : ℕ) (st : List ℤ) (w : World) → execute U (Read n) a st w ≡ step_of (λ _. suc a) (λ _. st) (settle U (scanned n w))
  scan_is n a st w = read_is n a st w w.tapes.waiting

  -- a put, by whether the room is 0 and by the room after it
  abbrev put_by : ℕ → List ℤ → World → ℤ → Bool → ℕ → Step
  put_by a st w v full room = cond full (faulted (record { cause = 21; pinch = Some w.tapes.pinch }) w) (moved (suc a) st (record {
    cells = w.cells;
    tapes = record {
      waiting = w.tapes.waiting;
      written = w.tapes.written ++ (v ∷ []);
      room = room;
      pinch = w.tapes.pinch;
    };
  }))

  write_is : (a : ℕ) (st : List ℤ) (w : World) (o : Option ℤ) (r : ℕ) → w.tapes.room ≡ r →
      write a st w o ≡ step_of (λ _. suc a) (λ _. st) (settle U (appended o r w))
  write_is a st w None r e = refl
  write_is a st w (Some v) zero e = ap (λ (k : ℕ). put_by a st w v (eqb k 0) (k - 1)) e
  write_is a st w (Some v) (suc r) e =
      let some : (T (eqb (suc r) 0) → ⊥) = λ t. (let z : suc r ≡ 0 = eqb→eq (suc r) 0 t in omega arith) in
      ap (λ (k : ℕ). put_by a st w v (eqb k 0) (k - 1)) e
      ∙ ap (λ (b : Bool). put_by a st w v b (suc r - 1)) (is_false (eqb (suc r) 0) some)
      ∙ (let z : suc r - 1 ≡ r = omega arith in ap (λ (k : ℕ). put_by a st w v false k) z)

  pub print_is : (n a : ℕ) (st : List ℤ) (w : World) → execute U (Write n) a st w ≡ step_of (λ _. suc a) (λ _. st) (settle U (printed n w))
  print_is n a st w = write_is a st w (get_or w.cells (n - 1) None) w.tapes.room refl
