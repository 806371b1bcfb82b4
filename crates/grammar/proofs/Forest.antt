-- The trees that a stack stands for.
use mathlib.Core.Path.{◌≡◌, refl, sym, ap, ◌∙◌}
use mathlib.Core.Bool.{Bool, true, false, cond}
use mathlib.Core.List.{List, [], ◌∷◌}
use mathlib.Core.Logic.{◌⊎◌, inl, inr}
use Prim.Native.Nat.{ℕ, zero, suc, max, ◌≤◌}
use lib.ListN.{get_or}
use borrow.Author.Tests.{eqb-true}
use Rattle.grammar.specs.Kinds.{Name, Head, Int, Main, Scanf, Printf, If, Else, While, Return, Format, LeftParen, RightParen, LeftBrace, RightBrace, Comma, Semicolon, Ampersand, Assign, Equal, Unequal, Less, Greater, AtMost, AtLeast, Plus, Minus, Times, Divide, Modulo, Kind, Mark, Additive, Multiplicative, Relation, class, same}
use Rattle.grammar.specs.Kinds as kind
use Rattle.grammar.specs.Grammar.{Expression, Factor, Products, Sums, Statement, Statements, Names, Declaration, expression_onto, factor_onto, products_onto, sums_onto, statement_onto, statements_onto, names_onto, declaration_onto, expression_parens, factor_parens, products_parens, sums_parens, statement_parens, statements_parens, statement_depth, statements_depth, ends_open, ElseNearest, ElsesNearest}
use Rattle.grammar.specs.Automaton.{End, at_semicolon, at_paren, at_relation, Frame, braces, whole, Symbol, token, identifier, zero_number, expression, factor, products, sums, end, statement, tail, names, body, Step, next, bad, deep, Entry, pick, level}

-- what follows a statement: the `else` branches of the `if`s it ends, then the statements behind
pub data Tail : Type 0 where
  other : Statement → Tail → Tail
  last : Statements → Tail

abbrev pub EndTree : End → Type 0
EndTree at_semicolon = Unit {0}
EndTree at_paren = Unit {0}
EndTree at_relation = Relation

abbrev pub end_onto : (x : End) → EndTree x → List Kind → List Kind
end_onto at_semicolon e r = kind.semicolon ∷ r
end_onto at_paren e r = kind.right_paren ∷ r
end_onto at_relation e r = kind.relation e ∷ r

abbrev pub close_onto : Frame → List Kind → List Kind
close_onto (braces d) r = kind.right_brace ∷ r
close_onto (whole d) r = kind.return ∷ (kind.number 0 ∷ (kind.semicolon ∷ (kind.right_brace ∷ r)))

abbrev pub tail_onto : Frame → Tail → List Kind → List Kind
tail_onto x (other b t) r = kind.else ∷ statement_onto b (tail_onto x t r)
tail_onto x (last ss) r = statements_onto ss (close_onto x r)

-- an `else` cannot follow a statement that ends in an `if` without one
abbrev pub Meets : Tail → Bool → Type 0
Meets (other b t) o = o ≡ false
Meets (last ss) o = Unit {0}

abbrev pub Fits : ℕ → ℕ → Statement → Type 0
Fits p d b = (statement_parens b ≤ p) × (statement_depth b ≤ suc d) × ElseNearest b

abbrev pub AllFit : ℕ → ℕ → Statements → Type 0
AllFit p d ss = (statements_parens ss ≤ p) × (statements_depth ss ≤ suc d) × ElsesNearest ss

abbrev pub GoodTail : Tail → ℕ → List ℕ → Frame → Type 0
GoodTail (other b t) p [] x = ⊥
GoodTail (other b t) p (e ∷ es) x = Fits p e b × Meets t (ends_open b) × GoodTail t p es x
GoodTail (last ss) p es x = AllFit p (level x) ss

abbrev pub Tree : Symbol → Type 0
Tree (token m) = Unit {0}
Tree identifier = Name
Tree zero_number = Unit {0}
Tree (expression p x) = Expression × EndTree x
Tree (factor p x) = Factor × Products × Sums × EndTree x
Tree (products p x) = Products × Sums × EndTree x
Tree (sums p x) = Sums × EndTree x
Tree (end x) = EndTree x
Tree (statement p d es x) = Statement × Tail
Tree (tail p es x) = Tail
Tree names = Names
Tree (body p d) = Declaration × Statements

abbrev pub onto : (y : Symbol) → Tree y → List Kind → List Kind
onto (token m) t r = kind.mark m ∷ r
onto identifier t r = kind.name t ∷ r
onto zero_number t r = kind.number 0 ∷ r
onto (expression p x) t r = expression_onto t.0 (end_onto x t.1 r)
onto (factor p x) t r = factor_onto t.0 (products_onto t.1 (sums_onto t.2 (end_onto x t.3 r)))
onto (products p x) t r = products_onto t.0 (sums_onto t.1 (end_onto x t.2 r))
onto (sums p x) t r = sums_onto t.0 (end_onto x t.1 r)
onto (end x) t r = end_onto x t r
onto (statement p d es x) t r = statement_onto t.0 (tail_onto x t.1 r)
onto (tail p es x) t r = tail_onto x t r
onto names t r = names_onto t r
onto (body p d) t r = declaration_onto t.0 (tail_onto (whole d) (last t.1) r)

abbrev pub Good : (y : Symbol) → Tree y → Type 0
Good (token m) t = Unit {0}
Good identifier t = Unit {0}
Good zero_number t = Unit {0}
Good (expression p x) t = expression_parens t.0 ≤ p
Good (factor p x) t = max (factor_parens t.0) (max (products_parens t.1) (sums_parens t.2)) ≤ p
Good (products p x) t = max (products_parens t.0) (sums_parens t.1) ≤ p
Good (sums p x) t = sums_parens t.0 ≤ p
Good (end x) t = Unit {0}
Good (statement p d es x) t = Fits p d t.0 × Meets t.1 (ends_open t.0) × GoodTail t.1 p es x
Good (tail p es x) t = GoodTail t p es x
Good names t = Unit {0}
Good (body p d) t = AllFit p d t.1

abbrev pub Forest : List Symbol → Type 0
Forest [] = Unit {0}
Forest (y ∷ s) = Tree y × Forest s

abbrev pub spell : (s : List Symbol) → Forest s → List Kind
spell [] f = []
spell (y ∷ s) f = onto y f.0 (spell s f.1)

abbrev pub AllGood : (s : List Symbol) → Forest s → Type 0
AllGood [] f = Unit {0}
AllGood (y ∷ s) f = Good y f.0 × AllGood s f.1

abbrev pub After : Step → Type 0
After (next s) = Forest s
After bad = ⊥
After deep = ⊥

abbrev pub spell_after : (r : Step) → After r → List Kind
spell_after (next s) a = spell s a
spell_after bad a = []
spell_after deep a = []

abbrev pub GoodAfter : (r : Step) → After r → Type 0
GoodAfter (next s) a = AllGood s a
GoodAfter bad a = ⊥
GoodAfter deep a = ⊥

-- what a token carries beside its class: a name's bytes, a number's value
abbrev pub Value : Type 0
Value = Name × ℕ

abbrev pub value : Kind → Value
value (kind.mark m) = ([], 0)
value (kind.name i) = (i, 0)
value (kind.number v) = ([], v)
value (kind.relation r) = ([], 0)
value (kind.additive a) = ([], 0)
value (kind.multiplicative m) = ([], 0)

-- the token of a key's class that has the value v
abbrev pub carry : Kind → Value → Kind
carry (kind.mark m) v = kind.mark m
carry (kind.name i) v = kind.name v.0
carry (kind.number zero) v = kind.number zero
carry (kind.number (suc n)) v = kind.number v.1
carry (kind.relation r) v = kind.relation r
carry (kind.additive a) v = kind.additive a
carry (kind.multiplicative m) v = kind.multiplicative m

-- which entry was picked: k is of its key's class, and its forest spells vs and is good where G holds
abbrev pub Hit : Entry → Kind → List Kind → Type 0 → Type 0
Hit e k vs G = (carry e.0 (value k) ≡ k) × (a : After e.1) × (spell_after e.1 a ≡ vs) × (G → GoodAfter e.1 a)

abbrev pub Found : List Entry → Kind → List Kind → Type 0 → Type 0
Found [] k vs G = ⊥
Found (e ∷ es) k vs G = Hit e k vs G ⊎ Found es k vs G

abbrev all : Value → List Kind
all v = (kind.mark Head) ∷ ((kind.mark Int) ∷ ((kind.mark Main) ∷ ((kind.mark Scanf) ∷ ((kind.mark Printf) ∷ ((kind.mark If) ∷ ((kind.mark Else) ∷ ((kind.mark While) ∷ ((kind.mark Return) ∷ ((kind.mark Format) ∷ ((kind.mark LeftParen) ∷ ((kind.mark RightParen) ∷ ((kind.mark LeftBrace) ∷ ((kind.mark RightBrace) ∷ ((kind.mark Comma) ∷ ((kind.mark Semicolon) ∷ ((kind.mark Ampersand) ∷ ((kind.mark Assign) ∷ ((kind.name v.0) ∷ ((kind.number zero) ∷ ((kind.number v.1) ∷ ((kind.relation Equal) ∷ ((kind.relation Unequal) ∷ ((kind.relation Less) ∷ ((kind.relation Greater) ∷ ((kind.relation AtMost) ∷ ((kind.relation AtLeast) ∷ ((kind.additive Plus) ∷ ((kind.additive Minus) ∷ ((kind.multiplicative Times) ∷ ((kind.multiplicative Divide) ∷ ((kind.multiplicative Modulo) ∷ [])))))))))))))))))))))))))))))))

abbrev decode : ℕ → Value → Kind
decode c v = get_or (all v) c kind.head

decoded : (k : Kind) → decode (class k) (value k) ≡ k
decoded (kind.mark Head) = refl
decoded (kind.mark Int) = refl
decoded (kind.mark Main) = refl
decoded (kind.mark Scanf) = refl
decoded (kind.mark Printf) = refl
decoded (kind.mark If) = refl
decoded (kind.mark Else) = refl
decoded (kind.mark While) = refl
decoded (kind.mark Return) = refl
decoded (kind.mark Format) = refl
decoded (kind.mark LeftParen) = refl
decoded (kind.mark RightParen) = refl
decoded (kind.mark LeftBrace) = refl
decoded (kind.mark RightBrace) = refl
decoded (kind.mark Comma) = refl
decoded (kind.mark Semicolon) = refl
decoded (kind.mark Ampersand) = refl
decoded (kind.mark Assign) = refl
decoded (kind.name i) = refl
decoded (kind.number zero) = refl
decoded (kind.number (suc n)) = refl
decoded (kind.relation Equal) = refl
decoded (kind.relation Unequal) = refl
decoded (kind.relation Less) = refl
decoded (kind.relation Greater) = refl
decoded (kind.relation AtMost) = refl
decoded (kind.relation AtLeast) = refl
decoded (kind.additive Plus) = refl
decoded (kind.additive Minus) = refl
decoded (kind.multiplicative Times) = refl
decoded (kind.multiplicative Divide) = refl
decoded (kind.multiplicative Modulo) = refl

carried : (k : Kind) (v : Value) → decode (class k) v ≡ carry k v
carried (kind.mark Head) v = refl
carried (kind.mark Int) v = refl
carried (kind.mark Main) v = refl
carried (kind.mark Scanf) v = refl
carried (kind.mark Printf) v = refl
carried (kind.mark If) v = refl
carried (kind.mark Else) v = refl
carried (kind.mark While) v = refl
carried (kind.mark Return) v = refl
carried (kind.mark Format) v = refl
carried (kind.mark LeftParen) v = refl
carried (kind.mark RightParen) v = refl
carried (kind.mark LeftBrace) v = refl
carried (kind.mark RightBrace) v = refl
carried (kind.mark Comma) v = refl
carried (kind.mark Semicolon) v = refl
carried (kind.mark Ampersand) v = refl
carried (kind.mark Assign) v = refl
carried (kind.name i) v = refl
carried (kind.number zero) v = refl
carried (kind.number (suc n)) v = refl
carried (kind.relation Equal) v = refl
carried (kind.relation Unequal) v = refl
carried (kind.relation Less) v = refl
carried (kind.relation Greater) v = refl
carried (kind.relation AtMost) v = refl
carried (kind.relation AtLeast) v = refl
carried (kind.additive Plus) v = refl
carried (kind.additive Minus) v = refl
carried (kind.multiplicative Times) v = refl
carried (kind.multiplicative Divide) v = refl
carried (kind.multiplicative Modulo) v = refl

pub same_sound : (a k : Kind) → same a k ≡ true → carry a (value k) ≡ k
same_sound a k e = sym (carried a (value k)) ∙ ap (λ c. decode c (value k)) (eqb-true (class a) (class k) e) ∙ decoded k

abbrev pub found_at : (b : Bool) (e : Entry) (es : List Entry) (k : Kind) → same e.0 k ≡ b → ((a : After (pick es k)) → Found es k (spell_after (pick es k) a) (GoodAfter (pick es k) a)) → (a : After (cond b e.1 (pick es k))) → Found (e ∷ es) k (spell_after (cond b e.1 (pick es k)) a) (GoodAfter (cond b e.1 (pick es k)) a)
found_at true e es k q f a = inl (same_sound e.0 k q, a, refl, λ g. g)
found_at false e es k q f a = inr (f a)

abbrev pub found : (es : List Entry) (k : Kind) (a : After (pick es k)) → Found es k (spell_after (pick es k) a) (GoodAfter (pick es k) a)
found [] k a = a
found (e ∷ es) k a = found_at (same e.0 k) e es k refl (found es k) a
