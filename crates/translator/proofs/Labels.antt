-- The labels of a published translation are all different, so the table tells where each stands.
use Rattle.std.proofs.Common.{◌≡◌, ℕ, zero, suc, ◌<◌, ◌≤◌, Bool, true, false, cond, ◌≢◌, List, [], ◌∷◌, ◌++◌, length, Some, None, Option, sym, refl, ap, ◌∙◌, subst, arith, length-append}
use Rattle.std.specs.List.{AllByRecursion}
use Rattle.std.specs.Str.{bytes_eq}
use Rattle.std.proofs.ByRecursion.{All-append, All-weaker}
use Rattle.std.proofs.lemmas.Slice.Eq.{bytes_eq-Decides}
use Rattle.syntax.specs.Trees.{Statement, assign, scan, print, when, either, while, block, Statements, none, then}
use Rattle.translator.specs.Cells.{cells_of_statements}
use Rattle.code.specs.Machine.{nth}
use Rattle.code.specs.declared.Instruction.TheVariants.{Store}
use Rattle.translator.specs.Linear.{Code, code_of_expression, code_of_condition, linear_code}
use Rattle.translator.specs.Published.{Label, Line, label, plain, jump, jump_if_zero, below, Table, table, find, linearise, labels, Absent, Distinct, LabelledOnce, Linearised}
use Rattle.translator.proofs.Lines.{plain_lines, lines_of_statement, lines_of_statements, lines_statements}
use Rattle.translator.proofs.Adapted.{Agrees, adapt_statements}

-- two addresses that differ are told apart
apart_false : (l m : Label) → l ≢ m → bytes_eq l m ≡ false
apart_false l m f = elim (bytes_eq l m) as (λ b. (b ≡ true → l ≡ m) → b ≡ false) [ true ↦ (λ h. absurd (f (h refl))) | false ↦ (λ h. refl) ] (bytes_eq-Decides l m).0

-- what has P and what has Q are different
abbrev Apart : (P Q : Label → Type 0) → Type 0
Apart P Q = (x y : Label) → P x → Q y → y ≢ x

distinct-++ : (P Q : Label → Type 0) → Apart P Q → (xs ys : List Label) → AllByRecursion P xs → AllByRecursion Q ys → Distinct xs → Distinct ys → Distinct (xs ++ ys)
distinct-++ P Q f [] ys p q d e = e
distinct-++ P Q f (x ∷ xs) ys p q d e =
    (All-append (λ m. m ≢ x) xs ys d.0 (All-weaker Q (λ m. m ≢ x) (λ y qy. f x y p.0 qy) ys q), distinct-++ P Q f xs ys p.1 q d.1 e)

labels-++ : (xs ys : List Line) → labels (xs ++ ys) ≡ labels xs ++ labels ys
labels-++ [] ys = refl
labels-++ (label l ∷ xs) ys = ap (λ (r : List Label). l ∷ r) (labels-++ xs ys)
labels-++ (plain i p ∷ xs) ys = labels-++ xs ys
labels-++ (jump l p ∷ xs) ys = labels-++ xs ys
labels-++ (jump_if_zero l p ∷ xs) ys = labels-++ xs ys

labels_plain_lines : (c : Code) (ys : List Line) → labels (plain_lines c ++ ys) ≡ labels ys
labels_plain_lines [] ys = refl
labels_plain_lines (x ∷ c) ys = labels_plain_lines c ys

no_labels : (c : Code) → labels (plain_lines c) ≡ []
no_labels [] = refl
no_labels (x ∷ c) = no_labels c

-- a table of different labels tells where they stand
agrees_cons : (l : Label) (k : ℕ) (t : Table) (n : ℕ) (xs : List Line) → Absent l (labels xs) → Agrees t n xs → Agrees ((l, k) ∷ t) n xs
agrees_cons l k t n [] a h = tt
agrees_cons l k t n (label m ∷ xs) a h =
    (ap (λ (b : Bool). cond b k (find m t)) (apart_false m l a.0) ∙ h.0, agrees_cons l k t n xs a.1 h.1)
agrees_cons l k t n (plain i p ∷ xs) a h = agrees_cons l k t (suc n) xs a h
agrees_cons l k t n (jump m p ∷ xs) a h = agrees_cons l k t (suc n) xs a h
agrees_cons l k t n (jump_if_zero m p ∷ xs) a h = agrees_cons l k t (suc n) xs a h

agrees : (n : ℕ) (xs : List Line) → Distinct (labels xs) → Agrees (table n xs) n xs
agrees n [] d = tt
agrees n (label l ∷ xs) d =
    (ap (λ (b : Bool). cond b n (find l (table n xs))) ((bytes_eq-Decides l l).1 refl), agrees_cons l n (table n xs) n xs d.0 (agrees n xs d.1))
agrees n (plain i p ∷ xs) d = agrees (suc n) xs d
agrees n (jump l p ∷ xs) d = agrees (suc n) xs d
agrees n (jump_if_zero l p ∷ xs) d = agrees (suc n) xs d

-- below a label: the same numbers as far as it goes
abbrev Under : Label → Label → Type 0
Under a l = (d : ℕ) → d < length a → nth l d ≡ nth a d

nth_front : (a b : Label) (d : ℕ) → d < length a → nth (a ++ b) d ≡ nth a d
nth_front [] b d h = absurd (no_such h)
  where
    no_such : d < 0 → ⊥
    no_such h = omega arith
nth_front (x ∷ a) b zero h = refl
nth_front (x ∷ a) b (suc d) h = nth_front a b d (omega arith)

nth_next : (a b : Label) (k : ℕ) → nth (a ++ (k ∷ b)) (length a) ≡ Some k
nth_next [] b k = refl
nth_next (x ∷ a) b k = nth_next a b k

nth_past : (a : Label) → nth a (length a) ≡ None
nth_past [] = refl
nth_past (x ∷ a) = nth_past a

under_self : (a : Label) → Under a a
under_self a d h = refl

under_child : (a : Label) (k : ℕ) → Under a (below a k)
under_child a k d h = nth_front a (k ∷ []) d h

child_length : (a : Label) (k : ℕ) → length a < length (below a k)
child_length a k = omega (arith, length-append a (k ∷ []))

under_less : (a : Label) (k : ℕ) (l : Label) → Under (below a k) l → Under a l
under_less a k l u d h = u d (omega (arith, child_length a k)) ∙ nth_front a (k ∷ []) d h

-- the number that follows a in l
under_next : (a : Label) (k : ℕ) (l : Label) → Under (below a k) l → nth l (length a) ≡ Some k
under_next a k l u = u (length a) (child_length a k) ∙ nth_next a [] k

-- two labels that differ at one place
differ : (d : ℕ) (o o' : Option ℕ) → o ≢ o' → (x y : Label) → nth x d ≡ o → nth y d ≡ o' → y ≢ x
differ d o o' f x y p q e = f (sym p ∙ ap (λ (z : Label). nth z d) (sym e) ∙ q)

some_some : (j k : ℕ) → j ≢ k → Some j ≢ Some k
some_some j k f e = f (cc)

some_none : (j : ℕ) → Some j ≢ None
some_none j e = let z : ◌≡◌ {A = ℕ} 0 1 = cc in absurd (no_z z)
  where
    no_z : ◌≡◌ {A = ℕ} 0 1 → ⊥
    no_z z = omega arith

-- at a's length, a label has this number, or none
abbrev Next : Label → Option ℕ → Label → Type 0
Next a o l = nth l (length a) ≡ o

apart_next : (a : Label) (o o' : Option ℕ) → o ≢ o' → Apart (Next a o) (Next a o')
apart_next a o o' f x y p q = differ (length a) o o' f x y p q

-- in a sequence, from number k on
abbrev From : Label → ℕ → Label → Type 0
From a k l = (j : ℕ) × (k ≤ j) × (nth l (length a) ≡ Some j)

apart_from : (a : Label) (k : ℕ) → Apart (Next a (Some k)) (From a (suc k))
apart_from a k x y p q = differ (length a) (Some k) (Some q.0) (some_some k q.0 (omega (arith, q.1))) x y p q.2

record Good (a : Label) (ls : List Label) : Type 0 where
  distinct : Distinct ls
  under : AllByRecursion (Under a) ls

record GoodSeq (a : Label) (k : ℕ) (ls : List Label) : Type 0 where
  distinct : Distinct ls
  under : AllByRecursion (Under a) ls
  later : AllByRecursion (From a k) ls

nexts : (a : Label) (k : ℕ) (ls : List Label) → Good (below a k) ls → AllByRecursion (Next a (Some k)) ls
nexts a k ls g = All-weaker (Under (below a k)) (Next a (Some k)) (λ l u. under_next a k l u) ls g.under

lesser : (a : Label) (k : ℕ) (ls : List Label) → Good (below a k) ls → AllByRecursion (Under a) ls
lesser a k ls g = All-weaker (Under (below a k)) (Under a) (λ l u. under_less a k l u) ls g.under

good_none : (a : Label) (ls : List Label) → ls ≡ [] → Good a ls
good_none a ls e = subst (λ (r : List Label). Good a r) (sym e) (record { distinct = tt; under = tt })

good_when : (a : Label) (xs : List Label) → Good (below a 1) xs → Good a (xs ++ (a ∷ []))
good_when a xs g = record {
  distinct = distinct-++ (Next a (Some 1)) (Next a None) (apart_next a (Some 1) None (some_none 1)) xs (a ∷ []) (nexts a 1 xs g) (nth_past a, tt) g.distinct (tt, tt);
  under = All-append (Under a) xs (a ∷ []) (lesser a 1 xs g) (under_self a, tt);
}

good_while : (a : Label) (xs : List Label) → Good (below a 1) xs → Good a (below a 2 ∷ (xs ++ (a ∷ [])))
good_while a xs g = record {
  distinct = (
    All-append (λ m. m ≢ below a 2) xs (a ∷ [])
        (All-weaker (Next a (Some 1)) (λ m. m ≢ below a 2) (λ m n. differ (length a) (Some 2) (Some 1) (some_some 2 1 (λ e. omega arith)) (below a 2) m (nth_next a [] 2) n) xs (nexts a 1 xs g))
        (differ (length a) (Some 2) None (some_none 2) (below a 2) a (nth_next a [] 2) (nth_past a), tt),
    (good_when a xs g).distinct,
  );
  under = (under_child a 2, (good_when a xs g).under);
}

good_either : (a : Label) (xs ys : List Label) → Good (below a 1) xs → Good (below a 2) ys → Good a (xs ++ (a ∷ (ys ++ (below a 3 ∷ []))))
good_either a xs ys g g' = record {
  distinct = distinct-++ (Next a (Some 1)) (λ l. nth l (length a) ≢ Some 1)
      (λ x y p q e. q (ap (λ (z : Label). nth z (length a)) e ∙ p)) xs (a ∷ (ys ++ (below a 3 ∷ []))) (nexts a 1 xs g) (
        (λ e. some_none 1 (sym e ∙ nth_past a)),
        All-append (λ l. nth l (length a) ≢ Some 1) ys (below a 3 ∷ [])
            (All-weaker (Next a (Some 2)) (λ l. nth l (length a) ≢ Some 1) (λ l n e. some_some 2 1 (λ z. omega arith) (sym n ∙ e)) ys (nexts a 2 ys g'))
            ((λ e. some_some 3 1 (λ z. omega arith) (sym (nth_next a [] 3) ∙ e)), tt),
      )
      g.distinct (
        All-append (λ m. m ≢ a) ys (below a 3 ∷ [])
            (All-weaker (Next a (Some 2)) (λ m. m ≢ a) (λ m n e. some_none 2 (sym n ∙ ap (λ (z : Label). nth z (length a)) e ∙ nth_past a)) ys (nexts a 2 ys g'))
            ((λ e. some_none 3 (sym (nth_next a [] 3) ∙ ap (λ (z : Label). nth z (length a)) e ∙ nth_past a)), tt),
        distinct-++ (Next a (Some 2)) (Next a (Some 3)) (apart_next a (Some 2) (Some 3) (some_some 2 3 (λ z. omega arith))) ys (below a 3 ∷ []) (nexts a 2 ys g') (nth_next a [] 3, tt) g'.distinct (tt, tt),
      );
  under = All-append (Under a) xs (a ∷ (ys ++ (below a 3 ∷ []))) (lesser a 1 xs g)
      (under_self a, All-append (Under a) ys (below a 3 ∷ []) (lesser a 2 ys g') (under_child a 3, tt));
}

good_then : (a : Label) (k : ℕ) (xs ys : List Label) → Good (below a k) xs → GoodSeq a (suc k) ys → GoodSeq a k (xs ++ ys)
good_then a k xs ys g g' = record {
  distinct = distinct-++ (Next a (Some k)) (From a (suc k)) (apart_from a k) xs ys (nexts a k xs g) g'.later g.distinct g'.distinct;
  under = All-append (Under a) xs ys (lesser a k xs g) g'.under;
  later = All-append (From a k) xs ys
      (All-weaker (Next a (Some k)) (From a k) (λ l n. (k, omega arith, n)) xs (nexts a k xs g))
      (All-weaker (From a (suc k)) (From a k) (λ l q. (q.0, omega (arith, q.1), q.2)) ys g'.later);
}

mutual
  good_statement : (s : Statement ℕ) (a : Label) → Good a (labels (lines_of_statement s a))
  good_statement (assign n p e) a = good_none a (labels (plain_lines (code_of_expression e ++ ((Store n, p) ∷ [])))) (no_labels (code_of_expression e ++ ((Store n, p) ∷ [])))
  good_statement (scan n p) a = good_none a [] refl
  good_statement (print n p) a = good_none a [] refl
  good_statement (when p c s) a =
      let body : List Line = lines_of_statement s (below a 1) in
      subst (λ (r : List Label). Good a r)
      (sym (labels_plain_lines (code_of_condition c) (jump_if_zero a p ∷ (body ++ (label a ∷ []))) ∙ labels-++ body (label a ∷ [])))
      (good_when a (labels body) (good_statement s (below a 1)))
  good_statement (either p c s q s') a =
      let body : List Line = lines_of_statement s (below a 1) in
      let body' : List Line = lines_of_statement s' (below a 2) in
      let last : List Line = label (below a 3) ∷ [] in
      let rest : List Line = jump (below a 3) q ∷ label a ∷ (body' ++ last) in
      subst (λ (r : List Label). Good a r)
      (sym (labels_plain_lines (code_of_condition c) (jump_if_zero a p ∷ (body ++ rest)) ∙ labels-++ body rest ∙ ap (λ (r : List Label). labels body ++ (a ∷ r)) (labels-++ body' last)))
      (good_either a (labels body) (labels body') (good_statement s (below a 1)) (good_statement s' (below a 2)))
  good_statement (while p c s) a =
      let body : List Line = lines_of_statement s (below a 1) in
      let back : List Line = jump (below a 2) p ∷ label a ∷ [] in
      subst (λ (r : List Label). Good a r)
      (sym (ap (λ (r : List Label). below a 2 ∷ r) (labels_plain_lines (code_of_condition c) (jump_if_zero a p ∷ (body ++ back)) ∙ labels-++ body back)))
      (good_while a (labels body) (good_statement s (below a 1)))
  good_statement (block ss) a = let g : GoodSeq a 1 (labels (lines_of_statements ss a 1)) = good_statements ss a 1 in record { distinct = g.distinct; under = g.under }

  good_statements : (ss : Statements ℕ) (a : Label) (k : ℕ) → GoodSeq a k (labels (lines_of_statements ss a k))
  good_statements none a k = record { distinct = tt; under = tt; later = tt }
  good_statements (then s ss) a k =
      subst (λ (r : List Label). GoodSeq a k r) (sym (labels-++ (lines_of_statement s (below a k)) (lines_of_statements ss a (suc k))))
      (good_then a k (labels (lines_of_statement s (below a k))) (labels (lines_of_statements ss a (suc k))) (good_statement s (below a k)) (good_statements ss a (suc k)))

distinct : (ss : Statements ℕ) → Distinct (labels (lines_of_statements ss (1 ∷ []) 1))
distinct ss = (good_statements ss (1 ∷ []) 1).distinct

-- the lines of a tree with cells for names, linearised
lined : (ss : Statements ℕ) → linearise (lines_of_statements ss (1 ∷ []) 1) ≡ linear_code ss
lined ss = adapt_statements (table 1 (lines_of_statements ss (1 ∷ []) 1)) ss 1 (1 ∷ []) 1 (agrees 1 (lines_of_statements ss (1 ∷ []) 1) (distinct ss))

pub labelled_once : LabelledOnce
labelled_once tab ss = subst (λ (xs : List Line). Distinct (labels xs)) (sym (lines_statements tab ss (1 ∷ []) 1)) (distinct (cells_of_statements tab ss))

pub linearised : Linearised
linearised tab ss = ap linearise (lines_statements tab ss (1 ∷ []) 1) ∙ lined (cells_of_statements tab ss)
