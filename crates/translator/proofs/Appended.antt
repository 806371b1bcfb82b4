-- Code that grows at its end, piece by piece.
use Rattle.std.proofs.Common.{◌≡◌, ℕ, ◌+◌, ◌<◌, ◌≤◌, List, [], ◌∷◌, ◌++◌, map, length, get_or, take, sym, ap, ◌∙◌, append_assoc}
use Rattle.std.proofs.lemmas.List.{map_more, take_all}

-- two pieces
pub twice : {A : Type 0} (old a b : List A) {v₁ v₂ : List A} → v₁ ≡ old ++ a → v₂ ≡ v₁ ++ b → v₂ ≡ old ++ (a ++ b)
twice old a b e f = f ∙ ap (λ l. l ++ b) e ∙ append_assoc old a b

-- a list that is made of another, one more of it and all of it
pub mapped_more : {X : Type 0} (f : X → ℕ) (xs : List X) (i : ℕ) (d : X) (y : ℕ) {v₁ v₂ : List ℕ} → i < length xs → v₁ ≡ map f (take i xs) → v₂ ≡ v₁ ++ (y ∷ []) → y ≡ f (get_or xs i d) →
    v₂ ≡ map f (take (i + 1) xs)
mapped_more f xs i d y h e g k = g ∙ (λ j. e j ++ (k j ∷ [])) ∙ sym (map_more f xs i d h)

pub mapped_all : {X : Type 0} (f : X → ℕ) (xs : List X) (i : ℕ) {v : List ℕ} → length xs ≤ i → v ≡ map f (take i xs) → v ≡ map f xs
mapped_all f xs i h e = e ∙ ap (map f) (take_all i xs h)
