-- A jump that is put with no target and filled in once the target is known.
use Rattle.std.proofs.Common.{◌≤◌, ◌<◌, get_or, drop, ◌≡◌, ℕ, suc, ◌+◌, List, [], ◌∷◌, ◌++◌, length, set, sym, refl, ap, ◌∙◌, append_assoc, arith, length-append}
use Rattle.std.proofs.lemmas.List.{set_at, at_drop_more, at_drop_all, append-nil}
use Rattle.code.specs.declared.Instruction.{Instruction}
use Rattle.code.specs.declared.Instruction.TheVariants.{Jump, JumpIfZero}
use Rattle.syntax.specs.declared.tree.Guarded.{Guarded}
use Rattle.syntax.specs.declared.tree.Statement.{Statement}
use Rattle.translator.specs.Linear.{Code, past}
use Rattle.translator.specs.Emitted.{condition_code, body_code, statement_code, statements_code, if_code, if_else_code, while_code}
use Rattle.translator.specs.Emitters.{Emits}
use Rattle.translator.specs.Guarded.{Guards}
use Rattle.translator.specs.declared.emitter.Emitter.{Emitter}
use Rattle.translator.proofs.Appended.{twice}

pub past_is : {A : Type 0} (a : ℕ) (xs : List A) → past a xs ≡ a + length xs
past_is a [] = omega arith
past_is a (x ∷ xs) = let h : past (suc a) xs ≡ suc a + length xs = past_is (suc a) xs in omega arith

-- a piece behind old, which stands at the address after it
followed : (old a : Code) (B : ℕ → Code) {v₁ v₂ : Code} → v₁ ≡ old ++ a → v₂ ≡ v₁ ++ B (suc (length v₁)) →
    v₂ ≡ old ++ (a ++ B (past (suc (length old)) a))
followed old a B {v₁} e f =
    let at : suc (length v₁) ≡ past (suc (length old)) a = (let p : past (suc (length old)) a ≡ suc (length old) + length a = past_is (suc (length old)) a in omega (arith, ap length e ∙ length-append old a)) in
    f ∙ (λ i. e i ++ B (at i)) ∙ append_assoc old a (B (past (suc (length old)) a))

pub past-++ : {A : Type 0} (a : ℕ) (xs ys : List A) → past a (xs ++ ys) ≡ past (past a xs) ys
past-++ a [] ys = refl
past-++ a (x ∷ xs) ys = past-++ (suc a) xs ys

-- c, a gap and b stand behind old, and the gap is filled
module _ (gap : Instruction × ℕ) (old c b : Code) (n : ℕ) {v : Code} (e : v ≡ old ++ (c ++ (gap ∷ b))) (en : n ≡ length old + length c) where
  filled : (full : Instruction × ℕ) → set v n full ≡ old ++ (c ++ (full ∷ b))
  filled full =
      ap (λ l. set l n full) (e ∙ sym (append_assoc old c (gap ∷ b)))
      ∙ set_at (old ++ c) gap b full n (length-append old c ∙ sym en) ∙ append_assoc old c (full ∷ b)

  -- the address behind it all
  end : suc (length v) ≡ past (suc (past (suc (length old)) c)) b
  end =
      let p : past (suc (length old)) c ≡ suc (length old) + length c = past_is (suc (length old)) c in
      let q : past (suc (past (suc (length old)) c)) b ≡ suc (past (suc (length old)) c) + length b = past_is (suc (past (suc (length old)) c)) b in
      omega (arith, ap length e ∙ length-append old (c ++ (gap ∷ b)), length-append c (gap ∷ b))

-- a condition, its jump and a body
module _ (p : ℕ) (old c body : Code) (n : ℕ) {v₃ : Code} (e : v₃ ≡ old ++ (c ++ ((JumpIfZero 0, p) ∷ body))) (en : n ≡ length old + length c) where
  abbrev gap : Instruction × ℕ
  gap = (JumpIfZero 0, p)

  abbrev a₁ : ℕ
  a₁ = suc (past (suc (length old)) c)

  if_made : (t : ℕ) {v₄ : Code} → t ≡ suc (length v₃) → v₄ ≡ set v₃ n (JumpIfZero t, p) →
      v₄ ≡ old ++ (c ++ ((JumpIfZero (past a₁ body), p) ∷ body))
  if_made t et e₄ =
      e₄ ∙ filled gap old c body n e en (JumpIfZero t, p)
      ∙ ap (λ k. old ++ (c ++ ((JumpIfZero k, p) ∷ body))) (et ∙ end gap old c body n e en)

  -- the body is followed by a jump
  module _ (x : Instruction × ℕ) {v₄ : Code} (e₄ : v₄ ≡ v₃ ++ (x ∷ [])) where
    all : v₄ ≡ old ++ (c ++ (gap ∷ (body ++ (x ∷ []))))
    all = twice old (c ++ (gap ∷ body)) (x ∷ []) e e₄ ∙ ap (λ l. old ++ l) (append_assoc c (gap ∷ body) (x ∷ []))

    branched : (u : ℕ) {v₅ : Code} → u ≡ suc (length v₄) → v₅ ≡ set v₄ n (JumpIfZero u, p) →
        v₅ ≡ old ++ (c ++ ((JumpIfZero (suc (past a₁ body)), p) ∷ (body ++ (x ∷ []))))
    branched u eu e₅ =
        e₅ ∙ filled gap old c (body ++ (x ∷ [])) n all en (JumpIfZero u, p)
        ∙ ap (λ k. old ++ (c ++ ((JumpIfZero k, p) ∷ (body ++ (x ∷ []))))) (eu ∙ end gap old c (body ++ (x ∷ [])) n all en ∙ past-++ a₁ body (x ∷ []))

  while_made : (s t : ℕ) {v₄ v₅ : Code} → s ≡ suc (length old) → v₄ ≡ v₃ ++ ((Jump s, p) ∷ []) → t ≡ suc (length v₄) → v₅ ≡ set v₄ n (JumpIfZero t, p) →
      v₅ ≡ old ++ (c ++ ((JumpIfZero (suc (past a₁ body)), p) ∷ (body ++ ((Jump (suc (length old)), p) ∷ []))))
  while_made s t es e₄ et e₅ =
      branched (Jump s, p) e₄ t et e₅ ∙ ap (λ k. old ++ (c ++ ((JumpIfZero (suc (past a₁ body)), p) ∷ (body ++ ((Jump k, p) ∷ []))))) es

  module _ (q : ℕ) (D : ℕ → Code) {v₄ v₅ v₆ : Code} (m u : ℕ) (em : m ≡ length v₃) (e₄ : v₄ ≡ v₃ ++ ((Jump 0, q) ∷ [])) (eu : u ≡ suc (length v₄)) (e₅ : v₅ ≡ set v₄ n (JumpIfZero u, p)) (e₆ : v₆ ≡ v₅ ++ D (suc (length v₅))) where
    abbrev skip : Instruction × ℕ
    skip = (Jump 0, q)

    -- the address of the second branch, and the branch there
    abbrev second : ℕ
    second = suc (past a₁ body)

    abbrev other : Code
    other = D second

    abbrev mid : Code
    mid = c ++ ((JumpIfZero second, p) ∷ body)

    made : v₅ ≡ old ++ (mid ++ (skip ∷ []))
    made = branched skip e₄ u eu e₅ ∙ ap (λ l. old ++ l) (sym (append_assoc c ((JumpIfZero second, p) ∷ body) (skip ∷ [])))

    -- the jump over the second branch stands behind mid
    spot : m ≡ length old + length mid
    spot = omega (arith, em, ap length e ∙ length-append old (c ++ (gap ∷ body)), length-append c (gap ∷ body), length-append c ((JumpIfZero second, p) ∷ body))

    after : past (suc (length old)) mid ≡ past a₁ body
    after = past-++ (suc (length old)) c ((JumpIfZero second, p) ∷ body)

    placed : v₆ ≡ old ++ (mid ++ (skip ∷ other))
    placed =
        twice old (mid ++ (skip ∷ [])) other made (e₆ ∙ ap (λ k. v₅ ++ D k) (end skip old mid [] m made spot ∙ ap suc after))
        ∙ ap (λ l. old ++ l) (append_assoc mid (skip ∷ []) other)

    else_made : (t : ℕ) {v₇ : Code} → t ≡ suc (length v₆) → v₇ ≡ set v₆ m (Jump t, q) →
        v₇ ≡ old ++ (c ++ ((JumpIfZero second, p) ∷ (body ++ ((Jump (past second other), q) ∷ other))))
    else_made t et e₇ =
        e₇ ∙ filled skip old mid other m placed spot (Jump t, q)
        ∙ ap (λ k. old ++ (mid ++ ((Jump k, q) ∷ other))) (et ∙ end skip old mid other m placed spot ∙ ap (λ k. past (suc k) other) after)
        ∙ ap (λ l. old ++ l) (append_assoc c ((JumpIfZero second, p) ∷ body) ((Jump (past second other), q) ∷ other))

-- the same of emitters, which keep their scope
pub guards : (g : Guarded) (x : Statement) {m₀ m₁ m₂ m₃ : Emitter} (n : ℕ) → x ≡ g.body.value → Emits m₀ (condition_code m₀.scope g.condition) m₁ → n ≡ length m₁.code.items → Emits m₁ ((JumpIfZero 0, g.place) ∷ []) m₂ →
    Emits m₂ (statement_code m₂.scope x (suc (length m₂.code.items))) m₃ → Guards m₀ g n m₃
guards g x {m₀} {m₁} {m₂} {m₃} n is tested en gapped made =
    let old : Code = m₀.code.items in
    let test : Code = condition_code m₀.scope g.condition in
    let gap : Instruction × ℕ = (JumpIfZero 0, g.place) in
    let kept : m₂.scope ≡ m₀.scope = gapped.scope ∙ tested.scope in
    let front : m₂.code.items ≡ old ++ (test ++ (gap ∷ [])) = twice old test (gap ∷ []) tested.code gapped.code in
    let spot : n ≡ length old + length test = en ∙ ap length tested.code ∙ length-append old test in
    record {
      emits = record {
        scope = made.scope ∙ kept;
        code =
            twice old (test ++ (gap ∷ [])) (body_code m₀.scope g (suc (past (suc (length old)) test))) front
            (made.code ∙ (λ i. m₂.code.items ++ statement_code (kept i) (is i) (end gap old test [] n front spot i)))
            ∙ ap (λ l. old ++ l) (append_assoc test (gap ∷ []) (body_code m₀.scope g (suc (past (suc (length old)) test))));
      };
      stands = spot;
    }

module _ (g : Guarded) {m₀ m₃ : Emitter} (n : ℕ) (put : Guards m₀ g n m₃) where
  abbrev condition : Code
  condition = condition_code m₀.scope g.condition

  abbrev body : Code
  body = body_code m₀.scope g (suc (past (suc (length m₀.code.items)) condition))

  pub emits_if : (t : ℕ) {m₄ : Emitter} → t ≡ suc (length m₃.code.items) → m₄.scope ≡ m₃.scope → m₄.code.items ≡ set m₃.code.items n (JumpIfZero t, g.place) →
      Emits m₀ (if_code m₀.scope g (suc (length m₀.code.items))) m₄
  emits_if t et scope patched = record {
    scope = scope ∙ put.emits.scope;
    code = if_made g.place m₀.code.items condition body n put.emits.code put.stands t et patched;
  }

  pub emits_while : (s t : ℕ) {m₄ m₅ : Emitter} → s ≡ suc (length m₀.code.items) → Emits m₃ ((Jump s, g.place) ∷ []) m₄ → t ≡ suc (length m₄.code.items) → m₅.scope ≡ m₄.scope → m₅.code.items ≡ set m₄.code.items n (JumpIfZero t, g.place) →
      Emits m₀ (while_code m₀.scope g (suc (length m₀.code.items))) m₅
  emits_while s t es back et scope patched = record {
    scope = scope ∙ back.scope ∙ put.emits.scope;
    code = while_made g.place m₀.code.items condition body n put.emits.code put.stands s t es back.code et patched;
  }

  pub emits_if_else : (q : ℕ) (y : Statement) (m t u : ℕ) {m₄ m₅ m₆ m₇ : Emitter} → m ≡ length m₃.code.items → Emits m₃ ((Jump 0, q) ∷ []) m₄ →
      u ≡ suc (length m₄.code.items) → m₅.scope ≡ m₄.scope → m₅.code.items ≡ set m₄.code.items n (JumpIfZero u, g.place) →
      Emits m₅ (statement_code m₅.scope y (suc (length m₅.code.items))) m₆ →
      t ≡ suc (length m₆.code.items) → m₇.scope ≡ m₆.scope → m₇.code.items ≡ set m₆.code.items m (Jump t, q) →
      Emits m₀ (if_else_code m₀.scope g q y (suc (length m₀.code.items))) m₇
  emits_if_else q y m t u {m₄} {m₅} em over eu same branched other et scope patched = record {
    scope = scope ∙ other.scope ∙ until;
    code =
        else_made g.place m₀.code.items condition body n put.emits.code put.stands q (statement_code m₀.scope y) m u em over.code eu branched
        (other.code ∙ ap (λ s. m₅.code.items ++ statement_code s y (suc (length m₅.code.items))) until) t et patched;
  }
    where
      until : m₅.scope ≡ m₀.scope
      until = same ∙ over.scope ∙ put.emits.scope

-- m₁ has put the code of some statements, and the code of those left makes up the code of all
pub record Left (m₀ m₁ : Emitter) (all left : List Statement) : Type 0 where
  pub scope : m₁.scope ≡ m₀.scope
  pub code : m₁.code.items ++ statements_code m₀.scope left (suc (length m₁.code.items)) ≡ m₀.code.items ++ statements_code m₀.scope all (suc (length m₀.code.items))

pub one_less : (all : List Statement) (i : ℕ) (x : Statement) {m₀ m₁ m₂ : Emitter} → i < length all → x ≡ get_or all i x → Left m₀ m₁ all (drop i all) → Emits m₁ (statement_code m₁.scope x (suc (length m₁.code.items))) m₂ →
    Left m₀ m₂ all (drop (i + 1) all)
one_less all i x {m₀} {m₁} {m₂} h is left put =
    let a : ℕ = suc (length m₁.code.items) in
    let rest : ℕ → Code = statements_code m₀.scope (drop (i + 1) all) in
    let here : m₂.code.items ≡ m₁.code.items ++ statement_code m₀.scope x a = put.code ∙ ap (λ s. m₁.code.items ++ statement_code s x a) left.scope in
    record {
      scope = put.scope ∙ left.scope;
      code =
          followed m₁.code.items (statement_code m₀.scope x a) rest here refl
          ∙ ap (λ y. m₁.code.items ++ statements_code m₀.scope (y ∷ drop (i + 1) all) a) is
          ∙ sym (at_drop_more (λ l. m₁.code.items ++ statements_code m₀.scope l a) all i x h)
          ∙ left.code;
    }

pub none_left : (all : List Statement) (i : ℕ) {m₀ m₁ : Emitter} → length all ≤ i → Left m₀ m₁ all (drop i all) → Emits m₀ (statements_code m₀.scope all (suc (length m₀.code.items))) m₁
none_left all i {m₀} {m₁} h left = record {
  scope = left.scope;
  code = sym (append-nil m₁.code.items) ∙ sym (at_drop_all (λ l. m₁.code.items ++ statements_code m₀.scope l (suc (length m₁.code.items))) all i h) ∙ left.code;
}
