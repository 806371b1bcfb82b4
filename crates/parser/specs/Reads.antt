-- What readers do to the tokens ahead of them. The automaton of the grammar says what is expected before and after.
--   left, ahead   the tokens that are still to be read, as the code has them and as the grammar does
--   token_at      a token of this kind at this place
--   starts        whether the first token has such a kind
--   Peeks         a token that is read only if it comes next
--   Picks         a token that is read if it is one of some form, and is left there else (Unread)
--   Needs         a token that must be of some form, and is refused else (Unfit)
--   Refuses       the automaton's verdict, as a refusal
--   Reads         tokens are read as what was expected, or refused as the automaton refuses them
--   Spells        tokens are those of a parse tree that fits, with this syntax tree, and then these are left
--   signed_by     a first term behind the sign that was read, if any
use Rattle.std.specs.Prelude.{◌≡◌, ℕ, Bool, true, false, List, [], ◌∷◌, Some, None, Option, Result, MatchOption, MatchResult}
use Rattle.syntax.specs.declared.token.Token as coded
use Rattle.syntax.specs.Tokens.{tokens_of}
use Rattle.syntax.specs.Trees.{Expression, first, minus, Term}
use Rattle.grammar.specs.Kinds.{Name, Kind, mark, name, number, relation, additive, multiplicative, Token, kinds, Additive, Plus, Minus}
use Rattle.grammar.specs.Automaton.{Symbol, Verdict, short, wrong, judge}
use Rattle.parser.specs.declared.reader.Reader.{Reader}
use Rattle.parser.specs.declared.refusals.Refusal.{Refusal}
use Rattle.parser.specs.declared.refusals.Refusal.TheVariants.{TooSoon, Grammar, Depth, NoMemory}

abbrev pub left : Reader → List coded.Token
left r = r.rest.now

abbrev pub ahead : List ℕ → Reader → List Token
ahead source r = tokens_of source (left r)

abbrev pub token_at : Kind → ℕ → Token
token_at k p = record { kind = k; place = p }

abbrev pub is_additive : Kind → Bool
is_additive (mark m) = false
is_additive (name n) = false
is_additive (number v) = false
is_additive (relation r) = false
is_additive (additive a) = true
is_additive (multiplicative m) = false

abbrev pub is_multiplicative : Kind → Bool
is_multiplicative (mark m) = false
is_multiplicative (name n) = false
is_multiplicative (number v) = false
is_multiplicative (relation r) = false
is_multiplicative (additive a) = false
is_multiplicative (multiplicative m) = true

abbrev pub starts : (Kind → Bool) → List Token → Bool
starts f [] = false
starts f (t ∷ ts) = f t.kind

abbrev pub Peeks : {X : Type 0} → (Kind → Bool) → (X → Token) → List Token → Option X → List Token → Type 0
Peeks f token us r vs = MatchOption r ((vs ≡ us) × (starts f us ≡ false)) (λ x. us ≡ token x ∷ vs)

-- the first of these tokens, if there is one, is not read
abbrev pub Unread : {X : Type 0} → (coded.Token → Option X → Type 0) → List coded.Token → Type 0
Unread read [] = Unit {0}
Unread read (t ∷ ts) = read t None

-- read t r: the token t is read as r, if at all
abbrev pub Picks : {X : Type 0} → (coded.Token → Option X → Type 0) → List coded.Token → Option X → List coded.Token → Type 0
Picks read us r vs = MatchOption r ((vs ≡ us) × Unread read us) (λ x. (t : coded.Token) × (us ≡ t ∷ vs) × read t (Some x))

-- the refusal of the first token, or of their end
abbrev pub Unfit : {X : Type 0} → (coded.Token → Option X → Type 0) → List coded.Token → Refusal → Type 0
Unfit read [] e = e ≡ TooSoon
Unfit read (t ∷ ts) e = (e ≡ Grammar t.place) × read t None

abbrev pub Needs : {X : Type 0} → (coded.Token → Option X → Type 0) → List coded.Token → Result X Refusal → List coded.Token → Type 0
Needs read us r vs = MatchResult r (λ x. (t : coded.Token) × (us ≡ t ∷ vs) × read t (Some x)) (Unfit read us)

abbrev pub Refuses : Verdict → Refusal → Type 0
Refuses v TooSoon = v ≡ short
Refuses v (Grammar p) = v ≡ wrong 4 p
Refuses v (Depth p) = v ≡ wrong 5 p
Refuses v NoMemory = Unit {0}

abbrev pub Reads : {X : Type 0} → List Token → List Symbol → Result X Refusal → List Token → List Symbol → (X → Type 0) → Type 0
Reads us from r vs to T = MatchResult r (λ x. (judge us from ≡ judge vs to) × T x) (λ e. Refuses (judge us from) e)

pub record Spells {P A : Type 0} (onto : P → List Kind → List Kind) (at : P → List Token → A × List Token) (Fits : P → Type 0) (us : List Token) (a : A) (vs : List Token) : Type 0 where
  pub tree : P
  pub tokens : kinds us ≡ onto tree (kinds vs)
  pub placed : at tree us ≡ (a, vs)
  pub fits : Fits tree

abbrev pub signed_as : Additive → ℕ → Term Name → Expression Name
signed_as Plus p t = first t
signed_as Minus p t = minus p t

abbrev pub signed_by : Option (Additive × ℕ) → Term Name → Expression Name
signed_by None t = first t
signed_by (Some sign) t = signed_as sign.0 sign.1 t
