use Rattle.std.proofs.Common.{◌≡◌, ◌-◌, List, ℕ, None, length, vec_items, sym, ap, subst, ◌∙◌, arith, rules, length-drop}
use Rattle.std.proofs.lemmas.List.{take_rest}
use Rattle.std.proofs.lemmas.Result.{err_from_is_err_and}
use Rattle.lexer.specs.declared.refusals.Refusal.{Refusal}
use Rattle.lexer.specs.declared.refusals.Refusal.TheVariants.{NoToken}
use Rattle.lexer.specs.Scan.{seen}
use Rattle.lexer.specs.Lex.{lexing, Strays}
use Rattle.lexer.proofs.Turns.{ReadTo, scanned_sizes, told_none, blank_turn, stray_turn, token_turn}
use Rattle.lexer.proofs.tokens.Goals as goal

pub loop-first-preserved-then-is_blank : goal.loop-first-preserved-then-is_blank
loop-first-preserved-then-is_blank c =
    blank_turn c.args.source.now (vec_items c.loop-first.tokens) c.loop-first.rest.now _ _ c.in-Some.ensures.cases.0 c.loop-first.invariant (sym c.if-is_blank.ensures)

pub returns-in_err-found : goal.returns-in_err-found
returns-in_err-found c =
    let s = c.args.source.now in
    let rest = c.loop-first.rest.now in
    let none : c.scan_token.result ≡ None = c.in_err-found.ensures.ok_part in
    let e : Refusal = c.in_err-found.field-0.0 in
    let told = told_none c.scan_token.result e (NoToken (length s - length rest)) none c.in_err-found.ensures.value in
    let found = ap (λ o. seen rest o) (sym none) ∙ c.scan_token.ensures in
    let P : Refusal → Type 0 = λ r. Strays (lexing s) r in
    let strays : Strays (lexing s) e = subst P (sym told) (stray_turn s (vec_items c.loop-first.tokens) rest _ _ c.in-Some.ensures.cases.0 c.loop-first.invariant (sym c.if-is_blank.ensures) found) in
    let p = err_from_is_err_and c.from_residual.result c.from_residual.ensures.1 in
    rw (p.1, p.2) strays

pub overflow_cast-token : goal.overflow_cast-token
overflow_cast-token c =
    let size = scanned_sizes c.loop-first.rest.now _ c.in_ok-found.found c.scan_token.ensures c.in_ok-found.ensures.ok_part in
    search rules

pub slice_bounds-rest-count : goal.slice_bounds-rest-count
slice_bounds-rest-count c =
    let size = scanned_sizes c.loop-first.rest.now _ c.in_ok-found.found c.scan_token.ensures c.in_ok-found.ensures.ok_part in
    size.1

pub slice_bounds-rest-start : goal.slice_bounds-rest-start
slice_bounds-rest-start c =
    let size = scanned_sizes c.loop-first.rest.now _ c.in_ok-found.found c.scan_token.ensures c.in_ok-found.ensures.ok_part in
    search rules

pub loop-first-smaller : goal.loop-first-smaller
loop-first-smaller c =
    let size = scanned_sizes c.loop-first.rest.now _ c.in_ok-found.found c.scan_token.ensures c.in_ok-found.ensures.ok_part in
    omega (arith, size.0, size.1, ap length (take_rest c.loop-first.rest.now c.in_ok-found.found.length), length-drop c.in_ok-found.found.length c.loop-first.rest.now)

pub loop-first-preserved : goal.loop-first-preserved
loop-first-preserved c =
    let s = c.args.source.now in
    let rest = c.loop-first.rest.now in
    let f = c.in_ok-found.found in
    let us = vec_items c.push.new.self in
    let found = ap (λ o. seen rest o) (sym c.in_ok-found.ensures.ok_part) ∙ c.scan_token.ensures in
    let P : List ℕ → Type 0 = λ l. ReadTo s us l (length s - length l) in
    subst P (sym (take_rest rest f.length)) (token_turn s (vec_items c.loop-first.tokens) rest _ _ c.in-Some.ensures.cases.0 c.loop-first.invariant f us (sym c.if-is_blank.ensures) found c.in_ok-push.ensures.items)
