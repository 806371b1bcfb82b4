-- The first instruction outside.
use Rattle.std.proofs.Common.{◌≡◌, ℕ, ◌+◌, ◌-◌, ◌≤◌, true, false, not, cond, List, [], ◌∷◌, length, Some, None, Option, position, sym, refl, ap, ◌∙◌, subst, arith}
use Rattle.std.specs.List.{position_from}
use Rattle.std.proofs.lemmas.Bool.{and_from}
use Rattle.std.proofs.lemmas.Iterator.Adapters.{position_from-zero}
use Rattle.std.proofs.lemmas.List.{length-map}
use Rattle.code.specs.declared.Instruction.{Instruction}
use Rattle.code.specs.Words.{word_of}
use Rattle.image.specs.Bounds.{inside, is_outside, all_inside}
use Rattle.image.specs.Admission.{Decodes, FirstOutside}

module _ (len : ℕ) where
  -- what a search of instructions that stand from a place on answers
  abbrev Found : ℕ → List Instruction → Option ℕ → Type 0
  Found n is None = all_inside len is ≡ true
  Found n is (Some k) = (n ≤ k) × FirstOutside len is (k - n + 1)

  later : (n : ℕ) (i : Instruction) (is : List Instruction) → inside len i ≡ true → (o : Option ℕ) → Found (n + 1) is o → Found n (i ∷ is) o
  later n i is e None h = and_from (inside len i) (all_inside len is) e h
  later n i is e (Some k) h =
      let l : n + 1 ≤ k = h.0 in
      let f : FirstOutside len is (k - (n + 1) + 1) = h.1 in (
        omega arith,
        record {
          before = i ∷ f.before;
          here = f.here;
          after = f.after;
          parts = ap (λ js. i ∷ js) f.parts;
          place = omega (arith, l, f.place);
          good = and_from (inside len i) (all_inside len f.before) e f.good;
          bad = f.bad;
        },
      )

  found : (n : ℕ) (is : List Instruction) → Found n is (position_from (is_outside len) n is)
  found n [] = refl
  found n (i ∷ is) =
      elim (inside len i) as (λ b. inside len i ≡ b → Found n (i ∷ is) (cond (not b) (Some n) (position_from (is_outside len) (n + 1) is))) [
        | true ↦ (λ e. later n i is e (position_from (is_outside len) (n + 1) is) (found (n + 1) is))
        | false ↦ (λ e. (omega arith, record { before = []; here = i; after = is; parts = refl; place = omega arith; good = refl; bad = e }))
      ] refl

  at_start : (is : List Instruction) (o : Option ℕ) → o ≡ position (is_outside len) is → Found 0 is o
  at_start is o e = subst (Found 0 is) (sym (e ∙ position_from-zero (is_outside len) is)) (found 0 is)

  pub none_found : (is : List Instruction) → None ≡ position (is_outside len) is → all_inside len is ≡ true
  none_found is e = at_start is None e

  pub first_found : (is : List Instruction) (k : ℕ) → Some k ≡ position (is_outside len) is → FirstOutside len is (k + 1)
  first_found is k e =
      let same : k - 0 + 1 ≡ k + 1 = omega arith in
      subst (FirstOutside len is) same (at_start is (Some k) e).1

pub as_long : (ws : List ℕ) (is : List Instruction) → Decodes ws is → length is ≡ length ws
as_long ws is d = sym (length-map is word_of) ∙ ap length d.words
