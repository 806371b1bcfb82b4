-- A token that stands at the front of a text is found.
use Rattle.std.proofs.Common.{◌≡◌, ℕ, ◌+◌, ◌≤◌, true, false, cond, ◌&&◌, eqb, leb, ◌⊎◌, List, [], ◌∷◌, ◌++◌, length, take, Some, None, codes, Option, sym, refl, ap, ◌∙◌, subst, inl, inr, ⊎_elim, append_assoc, rules, arith, length-append}
use Rattle.std.specs.List.{prefix_len, AllByRecursion}
use Rattle.std.proofs.lemmas.List.{take_at, drop_at}
use Rattle.std.proofs.lemmas.Bool.{cases_Bool, and_parts, leb-true, eqb-true, false≢true}
use Rattle.std.proofs.lemmas.Bool.Decides.{nat_tests}
use Rattle.syntax.specs.declared.token.Mark.TheVariants.{Head, Assign}
use Rattle.syntax.specs.declared.token.Relation.TheVariants.{Equal, Less, Greater, AtMost, AtLeast}
use Rattle.syntax.specs.Tokens as syntax
use Rattle.syntax.specs.Tokens.{Kind}
use Rattle.lexer.specs.Bytes.{digit, letter, word_byte, gap, begins}
use Rattle.lexer.specs.Scan.{Spelling, symbols, word_kind, value_of, zero_first, word_at, number_at, head_end, head_at, symbol_at, scanned}
use Rattle.lexer.specs.Tokens.{Listed, HeadToken, WordToken, NumberToken, Starts, head, word, number, symbol, NoToken}
use Rattle.lexer.proofs.Runs.{run_is}

abbrev Finds : Kind → List ℕ → List ℕ → Type 0
Finds k w rest = scanned (w ++ rest) ≡ Some (k, length w)

word_complete : (k : Kind) (w rest : List ℕ) → WordToken k w rest → Finds k w rest
word_complete k [] rest t = absurd (false≢true t.first)
word_complete k (b ∷ w) rest t =
    let n = run_is word_byte (b ∷ w) rest t.all t.full in
    ap (λ l. cond l (word_at (b ∷ (w ++ rest))) (cond (digit b) (number_at (b ∷ (w ++ rest))) (cond (eqb b 35) (head_at (b ∷ (w ++ rest))) (symbol_at (b ∷ (w ++ rest)))))) t.first
    ∙ ap (λ m. Some (word_kind (take m (b ∷ (w ++ rest))), m)) n
    ∙ ap (λ v. Some (v, length (b ∷ w))) (ap word_kind (take_at (b ∷ w) rest (length (b ∷ w)) refl) ∙ sym t.kind)

digit_no_letter : (b : ℕ) → digit b ≡ true → letter b ≡ false
digit_no_letter b e = grind (arith, nat_tests)

number_complete : (k : Kind) (w rest : List ℕ) → NumberToken k w rest → Finds k w rest
number_complete k [] rest t = absurd (let some = t.some in omega arith)
number_complete k (b ∷ w) rest t =
    let n = run_is digit (b ∷ w) rest t.all t.full in
    ap (λ l. cond l (word_at (b ∷ (w ++ rest))) (cond (digit b) (number_at (b ∷ (w ++ rest))) (cond (eqb b 35) (head_at (b ∷ (w ++ rest))) (symbol_at (b ∷ (w ++ rest)))))) (digit_no_letter b t.all.0)
    ∙ ap (λ l. cond l (number_at (b ∷ (w ++ rest))) (cond (eqb b 35) (head_at (b ∷ (w ++ rest))) (symbol_at (b ∷ (w ++ rest))))) t.all.0
    ∙ ap (λ z. cond z None (Some (syntax.number (value_of (take (prefix_len digit (b ∷ (w ++ rest))) (b ∷ (w ++ rest)))), prefix_len digit (b ∷ (w ++ rest))))) (first n (cases_Bool (zero_first (b ∷ (w ++ rest)))))
    ∙ ap (λ m. Some (syntax.number (value_of (take m (b ∷ (w ++ rest)))), m)) n
    ∙ ap (λ v. Some (v, length (b ∷ w))) (ap (λ l. syntax.number (value_of l)) (take_at (b ∷ w) rest (length (b ∷ w)) refl) ∙ sym t.kind)
  where
    first : prefix_len digit (b ∷ (w ++ rest)) ≡ length (b ∷ w) → (zero_first (b ∷ (w ++ rest)) ≡ true) ⊎ (zero_first (b ∷ (w ++ rest)) ≡ false) → zero_first (b ∷ (w ++ rest)) ≡ false
    first n (inr e) = e
    first n (inl e) =
        let parts = and_parts (leb 2 (prefix_len digit (b ∷ (w ++ rest)))) (eqb b 48 && true) e in
        let zero = and_parts (eqb b 48) true parts.1 in
        absurd (t.first (omega (arith, n, leb-true 2 (prefix_len digit (b ∷ (w ++ rest))) parts.0)) (eqb-true b 48 zero.0))

head_at_lem : (gaps rest : List ℕ) → AllByRecursion (λ b. gap b ≡ true) gaps → Finds (syntax.mark Head) (codes "#include" ++ (gaps ++ codes "<stdio.h>")) rest
head_at_lem gaps rest all =
    let file : List ℕ = codes "<stdio.h>" ++ rest in
    let n : prefix_len gap (gaps ++ file) ≡ length gaps = run_is gap gaps file all refl in
    let long : 17 + length gaps ≡ length (codes "#include" ++ (gaps ++ codes "<stdio.h>")) = omega (arith, length-append gaps (codes "<stdio.h>")) in
    ap (λ l. head_end (prefix_len gap l) l) (append_assoc gaps (codes "<stdio.h>") rest)
    ∙ ap (λ m. head_end m (gaps ++ file)) n
    ∙ ap (λ l. cond (begins (codes "<stdio.h>") l) (Some (syntax.mark Head, 17 + length gaps)) None) (drop_at gaps file (length gaps) refl)
    ∙ ap (λ m. Some (syntax.mark Head, m)) long

head_complete : (k : Kind) (w rest : List ℕ) → HeadToken k w → Finds k w rest
head_complete k w rest t =
    ap (λ v. scanned (v ++ rest)) t.bytes ∙ head_at_lem t.gaps rest t.all ∙ (λ i. Some (sym t.kind i, length (sym t.bytes i)))

abbrev Longest : Spelling → List ℕ → Type 0
Longest s rest = (t : Spelling) → Listed t symbols → begins t.0 (s.0 ++ rest) ≡ true → length t.0 ≤ length s.0

abbrev SymbolFound : Spelling → Type 0
SymbolFound s = (rest : List ℕ) → Longest s rest → Finds s.1 s.0 rest

-- a `=` that comes next would have made a longer one
no_equals : (rest : List ℕ) → (begins (codes "=") rest ≡ true → 2 ≤ 1) → begins (codes "=") rest ≡ false
no_equals rest h = ⊎_elim (λ e. let two = h e in absurd (omega arith)) (λ e. e) (cases_Bool (begins (codes "=") rest))

one_byte : (one two : Kind) (rest : List ℕ) → (begins (codes "=") rest ≡ true → 2 ≤ 1) → cond {A = Option (Kind × ℕ)} (begins (codes "=") rest) (Some (two, 2)) (Some (one, 1)) ≡ Some (one, 1)
one_byte one two rest h = ap (λ t. cond {A = Option (Kind × ℕ)} t (Some (two, 2)) (Some (one, 1))) (no_equals rest h)

less_found : SymbolFound (codes "<", syntax.relation Less)
less_found rest h = one_byte (syntax.relation Less) (syntax.relation AtMost) rest (h _ (inr (inr (inr (inl refl)))))

greater_found : SymbolFound (codes ">", syntax.relation Greater)
greater_found rest h = one_byte (syntax.relation Greater) (syntax.relation AtLeast) rest (h _ (inr (inr (inr (inr (inl refl))))))

assign_found : SymbolFound (codes "=", syntax.mark Assign)
assign_found rest h = one_byte (syntax.mark Assign) (syntax.relation Equal) rest (h _ (inr (inl refl)))

each_symbol : AllByRecursion SymbolFound symbols
each_symbol = search (rules, less_found, greater_found, assign_found)

pub of_listed : (P : Spelling → Type 0) (ss : List Spelling) (s : Spelling) → AllByRecursion P ss → Listed s ss → P s
of_listed P [] s h l = absurd l
of_listed P (t ∷ ss) s h (inl e) = subst P (sym e) h.0
of_listed P (t ∷ ss) s h (inr l) = of_listed P ss s h.1 l

pub complete : (k : Kind) (w rest : List ℕ) → Starts k w rest → Finds k w rest
complete k w rest (head t) = head_complete k w rest t
complete k w rest (word t) = word_complete k w rest t
complete k w rest (number t) = number_complete k w rest t
complete k w rest (symbol t) = of_listed SymbolFound symbols (w, k) each_symbol t.listed rest t.longest

pub none_complete : (bs : List ℕ) → scanned bs ≡ None → NoToken bs
none_complete bs e k w rest is s =
    let finds = complete k w rest s in
    let none : ◌≡◌ {A = Option (Kind × ℕ)} None (Some (k, length w)) = sym e ∙ ap scanned is ∙ finds in
    let z : ◌≡◌ {A = ℕ} 0 1 = cc in omega arith
