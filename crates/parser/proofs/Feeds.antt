-- How what is read moves the automaton on.
use Rattle.std.proofs.Common.{◌≡◌, ℕ, zero, suc, ◌<◌, ◌≤◌, Bool, true, false, cond, List, [], ◌∷◌, take, drop, IsErrAnd, Some, None, Ok, Err, Option, Result, sym, refl, ap, ◌∙◌, subst, true≢false, arith, MatchOption, MatchResult}
use Rattle.std.specs.Option.{is_some}
use Rattle.syntax.specs.declared.token.Token as coded
use Rattle.syntax.specs.declared.token.Kind as coded-kind
use Rattle.syntax.specs.declared.token.Kind.TheVariants as code
use Rattle.syntax.specs.Tokens.{kind_of, tokens_of}
use Rattle.grammar.specs.Kinds.{Kind, Mark, LeftParen, RightParen, Semicolon, Comma, Int, Else, Token, mark, number, additive, multiplicative, Additive, Plus, Minus, Multiplicative, Times, Divide, Modulo, same}
use Rattle.grammar.specs.Automaton.{Symbol, identifier, names, body, tail_entries, Frame, braces, whole, level, statement, tail, bad, elses, closes, statement_entries, token, End, at_paren, at_semicolon, inside, expression, factor, products, sums, end, Step, next, Entry, pick, step, factor_entries, sum_entries, end_entries, go, feed, judged, judge, Verdict}
use Rattle.grammar.proofs.Forest.{carry, value, same_sound}
use Rattle.parser.specs.declared.refusals.Refusal.{Refusal}
use Rattle.parser.specs.Readers.{Marks}
use Rattle.parser.specs.Statements.{end_of, closed}
use Rattle.parser.specs.Reads.{token_at, is_additive, is_multiplicative, starts, Peeks, Refuses}

-- ── results ──

-- the exit of a `?`, behind what was read before
pub gone : {X : Type 0} {o q : Verdict} (P : X → Type 0) (r : Result X Refusal) (e : Refusal) → IsErrAnd r (λ y. y ≡ e) → o ≡ q → Refuses q e → MatchResult r P (λ y. Refuses o y)
gone P (Ok x) e h w f = absurd h
gone {q = q} P (Err y) e h w f = subst (λ n. Refuses n y) (sym w) (subst (Refuses q) (sym h) f)

-- the last call's result, returned
pub onward : {X : Type 0} {o q : Verdict} (v : Verdict) (T U : X → Type 0) (r : Result X Refusal) → o ≡ q → ((x : X) → T x → U x) → MatchResult r (λ x. (q ≡ v) × T x) (λ e. Refuses q e) → MatchResult r (λ x. (o ≡ v) × U x) (λ e. Refuses o e)
onward v T U (Ok x) w f h = (w ∙ h.0, f x h.1)
onward v T U (Err y) w f h = subst (λ n. Refuses n y) (sym w) h

-- no token is added, read or not
pub peeked_fewer : {X : Type 0} (a b : ℕ) (r : Option X) → MatchOption r (a ≤ b) (λ _. a < b) → a ≤ b
peeked_fewer a b None h = h
peeked_fewer a b (Some x) h = omega arith

-- what is known of an option whose case is known
pub missed : {X : Type 0} (P : Type 0) (Q : X → Type 0) (r : Option X) → is_some r ≡ false → MatchOption r P Q → P
missed P Q None e h = h
missed P Q (Some x) e h = absurd (true≢false e)

pub met : {X : Type 0} (P : Type 0) (Q : X → Type 0) (r : Option X) → is_some r ≡ true → MatchOption r P Q → (x : X) × Q x
met P Q None e h = absurd (true≢false (sym e))
met P Q (Some x) e h = (x, h)

-- ── the first token ──

-- the first token is of the kind k
pub read_as : (source : List ℕ) {us vs : List coded.Token} {t : coded.Token} {k : coded-kind.Kind} → us ≡ t ∷ vs → t.kind ≡ k → tokens_of source us ≡ token_at (kind_of k (take t.length (drop t.place source))) t.place ∷ tokens_of source vs
read_as source {us} {vs} {t} e q = ap (tokens_of source) e ∙ ap (λ k. token_at (kind_of k (take t.length (drop t.place source))) t.place ∷ tokens_of source vs) q

pub read_mark : (source : List ℕ) {us vs : List coded.Token} {t : coded.Token} {m : Mark} (k : Mark) → us ≡ t ∷ vs → t.kind ≡ code.Mark m → m ≡ k → tokens_of source us ≡ token_at (mark k) t.place ∷ tokens_of source vs
read_mark source k e q h = read_as source e (q ∙ ap code.Mark h)

-- a first token whose step is known
pub taken : {us vs : List Token} {k : Kind} {p : ℕ} → us ≡ token_at k p ∷ vs → (s t : List Symbol) → step s k ≡ next t → judge us s ≡ judge vs t
taken {vs = vs} {p = p} e s t q = ap (λ l. judge l s) e ∙ ap (λ r. judged (go (feed vs) p r)) q

-- two stacks whose steps agree at the first token, and that are not empty
pub alike : (us : List Token) (f : Kind → Bool) (y z : Symbol) (s t : List Symbol) → starts f us ≡ false → ((k : Kind) → f k ≡ false → step (y ∷ s) k ≡ step (z ∷ t) k) → judge us (y ∷ s) ≡ judge us (z ∷ t)
alike [] f y z s t n h = refl
alike (u ∷ us) f y z s t n h = ap (λ r. judged (go (feed us) u.place r)) (h u.kind n)

-- a token that is not of the kind f is not of the class of a key that is
pub other : (f : Kind → Bool) (a k : Kind) → f (carry a (value k)) ≡ true → f k ≡ false → same a k ≡ false
other f a k h n = on (same a k) refl
  where
    on : (b : Bool) → same a k ≡ b → b ≡ false
    on true e = absurd (true≢false (sym h ∙ ap f (same_sound a k e) ∙ n))
    on false e = refl

pub pass : (e : Entry) (es : List Entry) (k : Kind) → same e.0 k ≡ false → pick (e ∷ es) k ≡ pick es k
pass e es k n = ap (λ b. cond b e.1 (pick es k)) n

-- ── expressions ──

pub paren_read : {us vs : List Token} {n p q : ℕ} → us ≡ token_at (mark LeftParen) n ∷ vs → p ≡ suc q → (x : End) (s : List Symbol) → judge us (factor p x ∷ s) ≡ judge vs (expression q at_paren ∷ (products p x ∷ s))
paren_read {us} {vs} {n} {p} {q} e h x s =
    taken e (factor p x ∷ s) (expression q at_paren ∷ (products p x ∷ s))
    (ap (λ m. inside m x s) h ∙ ap (λ m. next (expression q at_paren ∷ (products m x ∷ s))) (sym h))

number_step : (p : ℕ) (x : End) (s : List Symbol) (v : ℕ) → step (factor p x ∷ s) (number v) ≡ next (products p x ∷ s)
number_step p x s zero = refl
number_step p x s (suc v) = refl

pub number_read : {us vs : List Token} {v n : ℕ} → us ≡ token_at (number v) n ∷ vs → (p : ℕ) (x : End) (s : List Symbol) → judge us (factor p x ∷ s) ≡ judge vs (products p x ∷ s)
number_read {v = v} e p x s = taken e (factor p x ∷ s) (products p x ∷ s) (number_step p x s v)

pub at_paren_lem : (us : List Token) (s : List Symbol) → judge us (end at_paren ∷ s) ≡ judge us (token RightParen ∷ s)
at_paren_lem [] s = refl
at_paren_lem (u ∷ us) s = refl

pub at_semicolon_lem : (us : List Token) (s : List Symbol) → judge us (end at_semicolon ∷ s) ≡ judge us (token Semicolon ∷ s)
at_semicolon_lem [] s = refl
at_semicolon_lem (u ∷ us) s = refl

sign_step : (p : ℕ) (x : End) (s : List Symbol) (a : Additive) → step (expression p x ∷ s) (additive a) ≡ next (factor p x ∷ s)
sign_step p x s Plus = refl
sign_step p x s Minus = refl

bare_step : (p : ℕ) (x : End) (s : List Symbol) (k : Kind) → is_additive k ≡ false → step (expression p x ∷ s) k ≡ step (factor p x ∷ s) k
bare_step p x s k n =
    let r : Step = next (factor p x ∷ s) in
    pass (additive Plus, r) ((additive Minus, r) ∷ factor_entries p x s) k (other is_additive (additive Plus) k refl n) ∙ pass (additive Minus, r) (factor_entries p x s) k (other is_additive (additive Minus) k refl n)

pub sign_read : (us vs : List Token) (r : Option (Additive × ℕ)) → Peeks is_additive (λ x. token_at (additive x.0) x.1) us r vs → (p : ℕ) (x : End) (s : List Symbol) → judge us (expression p x ∷ s) ≡ judge vs (factor p x ∷ s)
sign_read us vs None h p x s = alike us is_additive (expression p x) (factor p x) s s h.1 (bare_step p x s) ∙ ap (λ l. judge l (factor p x ∷ s)) (sym h.0)
sign_read us vs (Some a) h p x s = taken h (expression p x ∷ s) (factor p x ∷ s) (sign_step p x s a.0)

sum_step : (p : ℕ) (x : End) (s : List Symbol) (a : Additive) → step (sums p x ∷ s) (additive a) ≡ next (factor p x ∷ s)
sum_step p x s Plus = refl
sum_step p x s Minus = refl

pub sum_read : {us vs : List Token} {a : Additive} {n : ℕ} → us ≡ token_at (additive a) n ∷ vs → (p : ℕ) (x : End) (s : List Symbol) → judge us (sums p x ∷ s) ≡ judge vs (factor p x ∷ s)
sum_read {a = a} e p x s = taken e (sums p x ∷ s) (factor p x ∷ s) (sum_step p x s a)

pub no_sum : (us vs : List Token) → (vs ≡ us) × (starts is_additive us ≡ false) → (p : ℕ) (x : End) (s : List Symbol) → judge us (sums p x ∷ s) ≡ judge vs (end x ∷ s)
no_sum us vs h p x s =
    let r : Step = next (factor p x ∷ s) in
    alike us is_additive (sums p x) (end x) s s h.1
    (λ k n. pass (additive Plus, r) ((additive Minus, r) ∷ end_entries x s) k (other is_additive (additive Plus) k refl n) ∙ pass (additive Minus, r) (end_entries x s) k (other is_additive (additive Minus) k refl n))
    ∙ ap (λ l. judge l (end x ∷ s)) (sym h.0)

product_step : (p : ℕ) (x : End) (s : List Symbol) (m : Multiplicative) → step (products p x ∷ s) (multiplicative m) ≡ next (factor p x ∷ s)
product_step p x s Times = refl
product_step p x s Divide = refl
product_step p x s Modulo = refl

pub product_read : {us vs : List Token} {m : Multiplicative} {n : ℕ} → us ≡ token_at (multiplicative m) n ∷ vs → (p : ℕ) (x : End) (s : List Symbol) → judge us (products p x ∷ s) ≡ judge vs (factor p x ∷ s)
product_read {m = m} e p x s = taken e (products p x ∷ s) (factor p x ∷ s) (product_step p x s m)

pub no_product : (us vs : List Token) → (vs ≡ us) × (starts is_multiplicative us ≡ false) → (p : ℕ) (x : End) (s : List Symbol) → judge us (products p x ∷ s) ≡ judge vs (sums p x ∷ s)
no_product us vs h p x s =
    let r : Step = next (factor p x ∷ s) in
    let other' : (m : Multiplicative) (k : Kind) → is_multiplicative k ≡ false → same (multiplicative m) k ≡ false = λ m k n. other is_multiplicative (multiplicative m) k refl n in
    alike us is_multiplicative (products p x) (sums p x) s s h.1
    (λ k n.
    pass (multiplicative Times, r) ((multiplicative Divide, r) ∷ ((multiplicative Modulo, r) ∷ sum_entries p x s)) k (other' Times k n)
    ∙ pass (multiplicative Divide, r) ((multiplicative Modulo, r) ∷ sum_entries p x s) k (other' Divide k n)
    ∙ pass (multiplicative Modulo, r) (sum_entries p x s) k (other' Modulo k n))
    ∙ ap (λ l. judge l (sums p x ∷ s)) (sym h.0)

-- ── statements ──

-- with no such token the first two entries, one of which refuses `else`, are passed over
unclosed : (c : Entry) (rest : List Entry) (k : Kind) → same c.0 k ≡ false → pick rest (mark Else) ≡ bad → pick ((mark Else, bad) ∷ (c ∷ rest)) k ≡ pick rest k
unclosed c rest k n refused = on (same (mark Else) k) refl
  where
    on : (b : Bool) → same (mark Else) k ≡ b → cond b bad (pick (c ∷ rest) k) ≡ pick rest k
    on true e = sym refused ∙ ap (pick rest) (same_sound (mark Else) k e)
    on false e = pass c rest k n

unclosed_step : (x : Frame) (s : List Symbol) (k : Kind) → same (mark (end_of x)) k ≡ false → step (tail 32 [] x ∷ s) k ≡ step (statement 32 (level x) [] x ∷ s) k
unclosed_step (braces d) s k n = unclosed (closes (braces d) s) (statement_entries 32 d [] (braces d) s) k n refl
unclosed_step (whole d) s k n = unclosed (closes (whole d) s) (statement_entries 32 d [] (whole d) s) k n refl

pub no_end : (x : Frame) {m : Mark} {d : ℕ} (us vs : List Token) → end_of x ≡ m → level x ≡ d → (vs ≡ us) × (starts (same (mark m)) us ≡ false) → (s : List Symbol) → judge us (tail 32 [] x ∷ s) ≡ judge vs (statement 32 d [] x ∷ s)
no_end x us vs e l h s =
    alike us (same (mark (end_of x))) (tail 32 [] x) (statement 32 (level x) [] x) s s (ap (λ m. starts (same (mark m)) us) e ∙ h.1) (unclosed_step x s)
    ∙ ap (λ ts. judge ts (statement 32 (level x) [] x ∷ s)) (sym h.0)
    ∙ ap (λ d. judge vs (statement 32 d [] x ∷ s)) l

end_taken : (x : Frame) {us vs : List Token} {n : ℕ} → us ≡ token_at (mark (end_of x)) n ∷ vs → (s : List Symbol) → judge us (tail 32 [] x ∷ s) ≡ judge vs (closed x s)
end_taken (braces d) e s = taken e (tail 32 [] (braces d) ∷ s) s refl
end_taken (whole d) e s = taken e (tail 32 [] (whole d) ∷ s) (closed (whole d) s) refl

pub end_read : (x : Frame) {m : Mark} {us vs : List Token} {n : ℕ} → end_of x ≡ m → us ≡ token_at (mark m) n ∷ vs → (s : List Symbol) → judge us (tail 32 [] x ∷ s) ≡ judge vs (closed x s)
end_read x {us = us} {vs = vs} {n = n} h e s = end_taken x (e ∙ ap (λ m. token_at (mark m) n ∷ vs) (sym h)) s

pub else_read : {us vs : List Token} {n : ℕ} → us ≡ token_at (mark Else) n ∷ vs → (e : ℕ) (es : List ℕ) (x : Frame) (s : List Symbol) → judge us (tail 32 (e ∷ es) x ∷ s) ≡ judge vs (statement 32 e es x ∷ s)
else_read q e es x s = taken q (tail 32 (e ∷ es) x ∷ s) (statement 32 e es x ∷ s) refl

pub no_else : (us vs : List Token) → (vs ≡ us) × (starts (same (mark Else)) us ≡ false) → (e : ℕ) (es : List ℕ) (x : Frame) (s : List Symbol) → judge us (tail 32 (e ∷ es) x ∷ s) ≡ judge vs (tail 32 es x ∷ s)
no_else us vs h e es x s =
    let rest : List Entry = closes x s ∷ statement_entries 32 (level x) [] x s in
    alike us (same (mark Else)) (tail 32 (e ∷ es) x) (tail 32 es x) s s h.1
    (λ k n. pass (mark Else, elses 32 (e ∷ es) x s) rest k n ∙ sym (pass (mark Else, elses 32 es x s) rest k n))
    ∙ ap (λ l. judge l (tail 32 es x ∷ s)) (sym h.0)

-- the first token of a statement that has statements below it
pub inner_read : {us vs : List Token} {m : Mark} {n d e : ℕ} → us ≡ token_at (mark m) n ∷ vs → d ≡ suc e → (es : List ℕ) (x : Frame) (s t : List Symbol) → step (statement 32 (suc e) es x ∷ s) (mark m) ≡ next t → judge us (statement 32 d es x ∷ s) ≡ judge vs t
inner_read {m = m} {d = d} q h es x s t k = taken q (statement 32 d es x ∷ s) t (ap (λ d. step (statement 32 d es x ∷ s) (mark m)) h ∙ k)

-- ── declarations ──

pub no_int : (us vs : List Token) → (vs ≡ us) × (starts (same (mark Int)) us ≡ false) → (s : List Symbol) → judge us (body 32 31 ∷ s) ≡ judge vs (tail 32 [] (whole 31) ∷ s)
no_int us vs h s =
    alike us (same (mark Int)) (body 32 31) (tail 32 [] (whole 31)) s s h.1
    (λ k n. pass (mark Int, next (identifier ∷ (names ∷ (tail 32 [] (whole 31) ∷ s)))) (tail_entries 32 [] (whole 31) s) k n)
    ∙ ap (λ l. judge l (tail 32 [] (whole 31) ∷ s)) (sym h.0)

pub no_comma : (us vs : List Token) → (vs ≡ us) × (starts (same (mark Comma)) us ≡ false) → (s : List Symbol) → judge us (names ∷ s) ≡ judge vs (token Semicolon ∷ s)
no_comma us vs h s =
    alike us (same (mark Comma)) names (token Semicolon) s s h.1
    (λ k n. pass (mark Comma, next (identifier ∷ (names ∷ s))) ((mark Semicolon, next s) ∷ []) k n)
    ∙ ap (λ l. judge l (token Semicolon ∷ s)) (sym h.0)

-- ── tokens in a row ──

pub more_marks : {ms ns : List Mark} {m : Mark} {us vs : List Token} {p : ℕ} (ws : List Token) → ms ≡ m ∷ ns → us ≡ token_at (mark m) p ∷ vs → Marks ns vs ws → Marks ms us ws
more_marks {us = us} {vs = vs} {p = p} ws e q h = subst (λ l. Marks l us ws) (sym e) (p, vs, q, h)
