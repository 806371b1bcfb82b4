-- The entries of a declaration.
use Rattle.std.proofs.Common.{◌≡◌, ℕ, ◌<◌, List, [], ◌∷◌, map, length, get_or, take, sym, refl, ap, ◌∙◌}
use Rattle.std.proofs.lemmas.List.{length-map, get_or-map, take-map}
use Rattle.syntax.specs.declared.tree.Name as coded
use Rattle.syntax.specs.Tokens.{Name}
use Rattle.syntax.specs.TreeOf.{name_of, declared_of}

abbrev entry : List ℕ → coded.Name → Name × ℕ
entry s n = (name_of s n, n.place)

pub entries_are : (s : List ℕ) (ns : List coded.Name) → declared_of s ns ≡ map (entry s) ns
entries_are s [] = refl
entries_are s (n ∷ ns) = ap (λ es. entry s n ∷ es) (entries_are s ns)

pub length_entries : (s : List ℕ) (ns : List coded.Name) → length (declared_of s ns) ≡ length ns
length_entries s ns = ap length (entries_are s ns) ∙ length-map ns (entry s)

pub take_entries : (s : List ℕ) (ns : List coded.Name) (n : ℕ) → declared_of s (take n ns) ≡ take n (declared_of s ns)
take_entries s ns n = entries_are s (take n ns) ∙ sym (take-map (entry s) n ns) ∙ ap (take n) (sym (entries_are s ns))

pub entry_at : (s : List ℕ) (ns : List coded.Name) (i : ℕ) (d : coded.Name) → i < length ns → get_or (declared_of s ns) i ([], 0) ≡ entry s (get_or ns i d)
entry_at s ns i d h = ap (λ es. get_or es i ([], 0)) (entries_are s ns) ∙ get_or-map (entry s) ns i d ([], 0) h
