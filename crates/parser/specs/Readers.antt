-- What each reader promises: what is expected before and after it, and which tree the tokens between spell.
--   Fewer                                 no token is added
--   FewerIf                               nor is one, and one goes if it is read
--   ReadsMark, ReadsMarks                 one token with one spelling; several in a row
--   ReadsName, ReadsRelation, ReadsZero   a name; a relation; the number 0
--   ReadsFactor, ReadsTerm, ReadsExpression
--                                         the three levels of an expression, with so many parentheses to spare
--   ReadsParenthesized                    a factor, behind its open parenthesis
use Rattle.std.specs.Prelude.{◌≡◌, ℕ, suc, ◌<◌, ◌≤◌, List, [], ◌∷◌, length, Option, Result, OnOk, MatchOption}
use Rattle.syntax.specs.declared.tree.Name.{Name}
use Rattle.syntax.specs.declared.tree.Factor.{Factor}
use Rattle.syntax.specs.declared.tree.Term.{Term}
use Rattle.syntax.specs.declared.tree.Expression.{Expression}
use Rattle.syntax.specs.TreeOf.{name_of, factor_of, term_of, expression_of}
use Rattle.grammar.specs.Kinds.{Token, Mark, Relation}
use Rattle.grammar.specs.Kinds as kind
use Rattle.grammar.specs.Grammar.{factor_parens, term_parens, expression_parens, factor_onto, term_onto, expression_onto}
use Rattle.grammar.specs.Placed.{factor_at, term_at, expression_at}
use Rattle.grammar.specs.Automaton.{End, at_paren, at_relation, Symbol, token, identifier, zero_number, expression, factor, products, sums, end}
use Rattle.parser.specs.declared.reader.Reader.{Reader}
use Rattle.parser.specs.declared.refusals.Refusal.{Refusal}
use Rattle.parser.specs.Reads.{left, ahead, token_at, Reads, Spells}

abbrev pub Fewer : {X : Type 0} → Reader → Result X Refusal → Reader → Type 0
Fewer before r after = OnOk r (length (left after) ≤ length (left before))

abbrev pub FewerIf : {X : Type 0} → Reader → Option X → Reader → Type 0
FewerIf before r after = MatchOption r (length (left after) ≤ length (left before)) (λ _. length (left after) < length (left before))

abbrev pub ReadsMark : Reader → Mark → Result ℕ Refusal → Reader → Type 0
ReadsMark before m r after =
    (source : List ℕ) (s : List Symbol)
    → Reads (ahead source before) (token m ∷ s) r (ahead source after) s
    (λ p. ahead source before ≡ token_at (kind.mark m) p ∷ ahead source after)

-- these tokens are expected, then s
abbrev pub tokens : List Mark → List Symbol → List Symbol
tokens [] s = s
tokens (m ∷ ms) s = token m ∷ tokens ms s

-- the tokens us are these, then vs
abbrev pub Marks : List Mark → List Token → List Token → Type 0
Marks [] us vs = us ≡ vs
Marks (m ∷ ms) us vs = (p : ℕ) × (ws : List Token) × (us ≡ token_at (kind.mark m) p ∷ ws) × Marks ms ws vs

abbrev pub ReadsMarks : {X : Type 0} → Reader → List Mark → Result X Refusal → Reader → Type 0
ReadsMarks before ms r after =
    (source : List ℕ) (s : List Symbol)
    → Reads (ahead source before) (tokens ms s) r (ahead source after) s
    (λ _. Marks ms (ahead source before) (ahead source after))

abbrev pub ReadsName : Reader → Result Name Refusal → Reader → Type 0
ReadsName before r after =
    (source : List ℕ) (s : List Symbol)
    → Reads (ahead source before) (identifier ∷ s) r (ahead source after) s
    (λ n. ahead source before ≡ token_at (kind.name (name_of source n)) n.place ∷ ahead source after)

abbrev pub ReadsRelation : Reader → Result (Relation × ℕ) Refusal → Reader → Type 0
ReadsRelation before r after =
    (source : List ℕ) (s : List Symbol)
    → Reads (ahead source before) (end at_relation ∷ s) r (ahead source after) s
    (λ o. ahead source before ≡ token_at (kind.relation o.0) o.1 ∷ ahead source after)

abbrev pub ReadsZero : Reader → Result ℕ Refusal → Reader → Type 0
ReadsZero before r after =
    (source : List ℕ) (s : List Symbol)
    → Reads (ahead source before) (zero_number ∷ s) r (ahead source after) s
    (λ p. ahead source before ≡ token_at (kind.number 0) p ∷ ahead source after)

abbrev pub ReadsFactor : Reader → ℕ → Result Factor Refusal → Reader → Type 0
ReadsFactor before parens r after =
    (source : List ℕ) (x : End) (s : List Symbol)
    → Reads (ahead source before) (factor parens x ∷ s) r (ahead source after) (products parens x ∷ s)
    (λ f. Spells factor_onto factor_at (λ u. factor_parens u ≤ parens) (ahead source before) (factor_of source f) (ahead source after))

abbrev pub ReadsParenthesized : Reader → ℕ → Result Factor Refusal → Reader → Type 0
ReadsParenthesized before parens r after =
    (source : List ℕ) (s : List Symbol)
    → Reads (ahead source before) (expression parens at_paren ∷ s) r (ahead source after) s
    (λ f. (p : ℕ) → Spells factor_onto factor_at (λ u. factor_parens u ≤ suc parens) (token_at kind.left_paren p ∷ ahead source before) (factor_of source f) (ahead source after))

abbrev pub ReadsTerm : Reader → ℕ → Result Term Refusal → Reader → Type 0
ReadsTerm before parens r after =
    (source : List ℕ) (x : End) (s : List Symbol)
    → Reads (ahead source before) (factor parens x ∷ s) r (ahead source after) (sums parens x ∷ s)
    (λ t. Spells term_onto term_at (λ u. term_parens u ≤ parens) (ahead source before) (term_of source t) (ahead source after))

abbrev pub ReadsExpression : Reader → ℕ → Result Expression Refusal → Reader → Type 0
ReadsExpression before parens r after =
    (source : List ℕ) (x : End) (s : List Symbol)
    → Reads (ahead source before) (expression parens x ∷ s) r (ahead source after) (end x ∷ s)
    (λ e. Spells expression_onto expression_at (λ u. expression_parens u ≤ parens) (ahead source before) (expression_of source e) (ahead source after))
