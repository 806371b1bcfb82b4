-- Tokens as the grammar sees them.
--   Name       a name: its bytes
--   Kind       what a token is; a name with its bytes, a number with its value
--   Token      a kind and the place where it begins
--   kind_of    the kind of a token of the code, its bytes read from the source
--   token_of   a token of the code as one of these
--   kinds      the kinds of some tokens
use Rattle.std.specs.Prelude.{ℕ, List, [], ◌∷◌, take, drop}
use Rattle.syntax.specs.declared.token.Mark.{Mark}
use Rattle.syntax.specs.declared.token.Relation.{Relation}
use Rattle.syntax.specs.declared.token.Additive.{Additive}
use Rattle.syntax.specs.declared.token.Multiplicative.{Multiplicative}
use Rattle.syntax.specs.declared.token.Kind.TheVariants as code
use Rattle.syntax.specs.declared.token.Kind as coded
use Rattle.syntax.specs.declared.token.Token as coded-token

abbrev pub Name : Type 0
Name = List ℕ

pub data Kind : Type 0 where
  mark : Mark → Kind
  name : Name → Kind
  number : ℕ → Kind
  relation : Relation → Kind
  additive : Additive → Kind
  multiplicative : Multiplicative → Kind

pub record Token : Type 0 where
  pub kind : Kind
  pub place : ℕ

abbrev pub kind_of : coded.Kind → Name → Kind
kind_of (code.Mark m) bytes = mark m
kind_of code.Name bytes = name bytes
kind_of (code.Number v) bytes = number v
kind_of (code.Relation r) bytes = relation r
kind_of (code.Additive a) bytes = additive a
kind_of (code.Multiplicative m) bytes = multiplicative m

abbrev pub token_of : List ℕ → coded-token.Token → Token
token_of source t = record { kind = kind_of t.kind (take t.length (drop t.place source)); place = t.place }

abbrev pub tokens_of : List ℕ → List coded-token.Token → List Token
tokens_of source [] = []
tokens_of source (t ∷ ts) = token_of source t ∷ tokens_of source ts

abbrev pub kinds : List Token → List Kind
kinds [] = []
kinds (t ∷ ts) = t.kind ∷ kinds ts
