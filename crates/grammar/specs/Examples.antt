-- Readings of the grammar within the depths 32 and 32, as the automaton gives them.
--   placed      tokens with the places n, n + 1, ..
--   says        the answer
--   Examples    what is said of some token lists
use Rattle.std.specs.Prelude.{◌≡◌, List, [], ◌∷◌, ◌++◌, ℕ, zero, suc}
use Rattle.grammar.specs.Kinds.{Kind, Token, name, number, relation, additive, multiplicative, Less, Minus, Times, if, else, while, return, left_paren, right_paren, left_brace, right_brace, semicolon, assign, int, comma}
use Rattle.grammar.specs.Grammar.{opening, closing}
use Rattle.grammar.specs.Automaton.{Verdict, good, short, wrong, judge, start}

abbrev pub placed : ℕ → List Kind → List Token
placed n [] = []
placed n (k ∷ ks) = record { kind = k; place = n } ∷ placed (suc n) ks

abbrev pub says : List Kind → Verdict
says ks = judge (placed 0 ks) (start 31 32)

abbrev pub times_over : ℕ → List Kind → List Kind → List Kind
times_over zero ks r = r
times_over (suc n) ks r = ks ++ times_over n ks r

abbrev a : Kind
a = name (97 ∷ [])

abbrev b : Kind
b = name (98 ∷ [])

-- if ( a < a ), while ( a < a ), a = a ;
abbrev pub test : List Kind
test = left_paren ∷ (a ∷ (relation Less ∷ (a ∷ (right_paren ∷ []))))

abbrev pub set : List Kind
set = a ∷ (assign ∷ (a ∷ (semicolon ∷ [])))

abbrev pub Examples : Type 0
Examples =
    (says [] ≡ short)
    × (says (opening closing) ≡ good)
    × (says (opening (int ∷ (a ∷ (comma ∷ (b ∷ (semicolon ∷ closing)))))) ≡ good)
    -- a second `else` has its `if` too, a third has none
    × (says (opening ((if ∷ test) ++ ((if ∷ test) ++ (set ++ ((else ∷ set) ++ ((else ∷ set) ++ closing)))))) ≡ good)
    × (says (opening ((if ∷ test) ++ (set ++ ((else ∷ set) ++ ((else ∷ set) ++ closing))))) ≡ wrong 4 21)
    × (says (opening (else ∷ closing)) ≡ wrong 4 6)
    -- {} and a lone ;
    × (says (opening (left_brace ∷ (right_brace ∷ closing))) ≡ wrong 4 7)
    × (says (opening (semicolon ∷ closing)) ≡ wrong 4 6)
    -- a = a * - a ;   and   if ( ( a < a
    × (says (opening (a ∷ (assign ∷ (a ∷ (multiplicative Times ∷ (additive Minus ∷ (a ∷ (semicolon ∷ closing)))))))) ≡ wrong 4 10)
    × (says (opening (if ∷ (left_paren ∷ test))) ≡ wrong 4 10)
    -- 32 and 33 open parentheses
    × (says (opening (a ∷ (assign ∷ times_over 32 (left_paren ∷ []) (a ∷ times_over 32 (right_paren ∷ []) (semicolon ∷ closing))))) ≡ good)
    × (says (opening (a ∷ (assign ∷ times_over 33 (left_paren ∷ []) []))) ≡ wrong 5 40)
    -- 31 and 32 loops around a statement
    × (says (opening (times_over 31 (while ∷ test) (set ++ closing))) ≡ good)
    × (says (opening (times_over 32 (while ∷ test) (set ++ closing))) ≡ wrong 5 192)
    -- return 1, and a token behind the end
    × (says (opening (return ∷ (number 1 ∷ []))) ≡ wrong 4 7)
    × (says (opening (closing ++ (semicolon ∷ []))) ≡ wrong 4 10)
