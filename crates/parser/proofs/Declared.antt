-- How the names of a declaration and the pieces of a program join to its tree.
use Rattle.std.proofs.Common.{◌≡◌, ℕ, List, [], ◌∷◌, ◌++◌, sym, refl, ap, ◌∙◌}
use Rattle.syntax.specs.declared.tree.Name as coded
use Rattle.syntax.specs.Trees.{Statements}
use Rattle.syntax.specs.TreeOf.{name_of, declared_of}
use Rattle.grammar.specs.Kinds.{Name, Token, kinds, Mark, Head, Int, Main, LeftParen, RightParen, LeftBrace, RightBrace, Semicolon}
use Rattle.grammar.specs.Kinds as kind
use Rattle.grammar.specs.Grammar as parse
use Rattle.grammar.specs.Grammar.{names_onto, declaration_onto, statements_onto}
use Rattle.grammar.specs.Placed.{past, names_at, declaration_at, statements_at, program_at}
use Rattle.parser.specs.Reads.{token_at, Spells}
use Rattle.parser.specs.Readers.{Marks}
use Rattle.parser.specs.Statements.{StatementsFit}
use Rattle.parser.specs.Programs.{AreNames, IsDeclaration, IsProgram}
use Rattle.parser.proofs.Joined.{tokens_at, all_marks}

pub names_end : {us vs : List Token} {n : ℕ} → us ≡ token_at kind.semicolon n ∷ vs → AreNames us [] vs
names_end e = record { tree = parse.nomore; tokens = ap kinds e; placed = ap (λ k. ([], past k)) e; fits = tt }

pub also_spelled : {us vs ws zs : List Token} {i : Name} {m n : ℕ} {more : List (Name × ℕ)} → us ≡ token_at kind.comma m ∷ vs → vs ≡ token_at (kind.name i) n ∷ ws → AreNames ws more zs → AreNames us ((i, n) ∷ more) zs
also_spelled {i = i} {m = m} {n = n} a b h = record {
  tree = parse.also i h.tree;
  tokens = ap kinds (a ∙ ap (λ k. token_at kind.comma m ∷ k) b) ∙ ap (λ k. kind.comma ∷ (kind.name i ∷ k)) h.tokens;
  placed = ap (names_at (parse.also i h.tree)) (a ∙ ap (λ k. token_at kind.comma m ∷ k) b) ∙ ap (λ q. ((i, n) ∷ q.0, q.1)) h.placed;
  fits = tt;
}

pub undeclared : {us vs : List Token} → vs ≡ us → IsDeclaration us [] vs
undeclared e = record { tree = parse.nothing; tokens = ap kinds (sym e); placed = ap (λ k. ([], k)) (sym e); fits = tt }

pub variables_spelled : {us vs ws zs : List Token} {i : Name} {m n : ℕ} {more : List (Name × ℕ)} → us ≡ token_at kind.int m ∷ vs → vs ≡ token_at (kind.name i) n ∷ ws → AreNames ws more zs → IsDeclaration us ((i, n) ∷ more) zs
variables_spelled {i = i} {m = m} {n = n} a b h = record {
  tree = parse.variables i h.tree;
  tokens = ap kinds (a ∙ ap (λ k. token_at kind.int m ∷ k) b) ∙ ap (λ k. kind.int ∷ (kind.name i ∷ k)) h.tokens;
  placed = ap (declaration_at (parse.variables i h.tree)) (a ∙ ap (λ k. token_at kind.int m ∷ k) b) ∙ ap (λ q. ((i, n) ∷ q.0, q.1)) h.placed;
  fits = tt;
}

-- names behind names
pub declared_more : (source : List ℕ) (ns : List coded.Name) (n : coded.Name) (more : List (Name × ℕ)) → declared_of source (ns ++ (n ∷ [])) ++ more ≡ declared_of source ns ++ ((name_of source n, n.place) ∷ more)
declared_more source [] n more = refl
declared_more source (m ∷ ns) n more = ap (λ l. (name_of source m, m.place) ∷ l) (declared_more source ns n more)

-- ── a whole program ──

abbrev front : List Mark
front = Head ∷ (Int ∷ (Main ∷ (LeftParen ∷ (RightParen ∷ (LeftBrace ∷ [])))))

abbrev back : List Mark
back = Semicolon ∷ (RightBrace ∷ [])

pub program_spelled : {us vs ws xs ys zs : List Token} {ns : List (Name × ℕ)} {ss all : Statements Name} {p q : ℕ} → all ≡ ss → Marks front us vs → IsDeclaration vs ns ws → Spells statements_onto statements_at (StatementsFit 31) ws ss (token_at kind.return p ∷ xs) → xs ≡ token_at (kind.number 0) q ∷ ys → Marks back ys zs → IsProgram us (record { declared = ns; statements = all }) zs
program_spelled {us} {vs} {ws} {xs} {ys} {zs} {ns} {ss} {all} {p} {q} same h d b z e = record {
  parse = parse.program d.tree b.tree;
  within = b.fits;
  spelled = λ none. sym (
      ap kinds (all_marks front us vs h)
      ∙ ap parse.opening (
      d.tokens
      ∙ ap (declaration_onto d.tree) (b.tokens ∙ ap (λ k. statements_onto b.tree (kind.return ∷ kinds k)) (z ∙ ap (λ k. token_at (kind.number 0) q ∷ k) (all_marks back ys zs e ∙ ap (tokens_at back ys zs e) none)))));
  placed = ap (λ (l : Statements Name). record { declared = ns; statements = l }) same ∙ sym (
      ap (program_at (parse.program d.tree b.tree)) (all_marks front us vs h)
      ∙ ap (λ a. record { declared = a.0; statements = (statements_at b.tree a.1).0 }) d.placed
      ∙ ap (λ a. record { declared = ns; statements = a.0 }) b.placed);
}
