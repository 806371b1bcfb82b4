-- Words of instructions in range are decoded as those instructions, and code whose cells and targets exist is admitted.
use Rattle.std.proofs.Common.{◌≡◌, ℕ, zero, suc, ◌+◌, ◌-◌, ◌<◌, ◌≤◌, min, Bool, true, false, ◌&&◌, T, leb, List, [], ◌∷◌, ◌++◌, map, length, get_or, sym, refl, ap, ◌∙◌, subst, ap₂, arith, le→leb}
use Rattle.std.specs.List.{AllByRecursion}
use Rattle.syntax.specs.Tokens.{Name}
use Rattle.syntax.specs.Trees.{Program}
use Rattle.code.specs.declared.Instruction.{Instruction}
use Rattle.code.specs.declared.Instruction.TheVariants.{Literal, Read, Write, Load, Store, Jump, JumpIfZero, Add, Subtract, Multiply, Divide, Modulo, Less, Equal, Unequal, Greater, AtMost, AtLeast}
use Rattle.code.specs.Words.{word_of, InRange, OneWordEach}
use Rattle.code.specs.World.{Tapes, Report, ArithmeticUnit}
use Rattle.code.specs.Machine.{start, finish}
use Rattle.translator.specs.Bounds.{Within}
use Rattle.translator.specs.Linear.{Code, instructions, places}
use Rattle.translator.specs.Written.{words_of, Fits}
use Rattle.translator.proofs.Inside.{stays_inside}
use Rattle.image.specs.Bounds.{inside, all_inside}
use Rattle.image.specs.Admission.{Decodes, FirstNone, FirstOutside, Refuses}
use Rattle.image.specs.declared.refusals.Refusal.{Refusal}
use Rattle.image.specs.declared.refusals.Refusal.TheVariants.{TooLong, NotInstruction, OutOfBounds, NoMemory}
use Rattle.meaning.specs.Meaning.{Outcome, reported, meaning}
use Rattle.meaning.specs.Promise.{code_of, total, advances, Reached, Promised}
use Rattle.meaning.proofs.Booleans.{is_true}
use Rattle.meaning.proofs.Histories.{runs_mean_sources, units_agree, histories_mean_sources}
use Rattle.meaning.proofs.Shallow.{shallow}
use Rattle.runner.specs.Calls.{CallsMeanSources, Drive, DrivesMeanSources, AlwaysAdmitted}

words_length : (c : Code) → length (words_of c) ≡ length c
words_length [] = refl
words_length (x ∷ c) = ap suc (words_length c)

words_are : (c : Code) → map word_of (instructions c) ≡ words_of c
words_are [] = refl
words_are (x ∷ c) = ap (λ (ws : List ℕ). word_of x.0 ∷ ws) (words_are c)

ranges_are : (c : Code) → Fits c → AllByRecursion InRange (instructions c)
ranges_are [] h = tt
ranges_are (x ∷ c) h = (h.0, ranges_are c h.1)

-- the instruction of a word
word_at : (c : Code) → Fits c → (n : ℕ) → n < length c → (i : Instruction) × InRange i × (word_of i ≡ get_or (words_of c) n 0)
word_at [] h n l = absurd (none_below n l)
  where
    none_below : (n : ℕ) → n < 0 → ⊥
    none_below n l = omega arith
word_at (x ∷ c) h zero l = (x.0, h.0, refl)
word_at (x ∷ c) h (suc n) l = word_at c h.1 n (omega arith)

same_instructions : OneWordEach → (is js : List Instruction) → AllByRecursion InRange is → AllByRecursion InRange js → map word_of is ≡ map word_of js → is ≡ js
same_instructions each [] [] h k e = refl
same_instructions each [] (j ∷ js) h k e = cc
same_instructions each (i ∷ is) [] h k e = cc
same_instructions each (i ∷ is) (j ∷ js) h k e =
    let first : word_of i ≡ word_of j = cc in
    let rest : map word_of is ≡ map word_of js = cc in
    ap₂ (λ (x : Instruction) (xs : List Instruction). x ∷ xs) (each.own i j h.0 k.0 first) (same_instructions each is js h.1 k.1 rest)

-- words that encode some code are decoded as it
decoded : OneWordEach → (c : Code) → Fits c → (is : List Instruction) → Decodes (words_of c) is → is ≡ instructions c
decoded each c h is d = same_instructions each is (instructions c) d.ranges (ranges_are c h) (d.words ∙ sym (words_are c))

both : (a b : Bool) → a ≡ true → b ≡ true → a && b ≡ true
both true b e f = f
both false b e f = cc

left_of : (a b : Bool) → a && b ≡ true → a ≡ true
left_of true b e = refl
left_of false b e = cc

right_of : (a b : Bool) → a && b ≡ true → b ≡ true
right_of true b e = e
right_of false b e = cc

middle_inside : (len : ℕ) (before : List Instruction) (i : Instruction) (after : List Instruction) → all_inside len (before ++ i ∷ after) ≡ true → inside len i ≡ true
middle_inside len [] i after h = left_of (inside len i) (all_inside len after) h
middle_inside len (j ∷ before) i after h = middle_inside len before i after (right_of (inside len j) (all_inside len (before ++ i ∷ after)) h)

clash : {b : Bool} → b ≡ true → b ≡ false → ⊥
clash e f = subst T (sym e ∙ f) tt

refused_for_memory : OneWordEach → (c : Code) → Fits c → length c ≤ 4096 → all_inside (length c) (instructions c) ≡ true →
    (e : Refusal) → Refuses (words_of c) e → e ≡ NoMemory
refused_for_memory each c h short sound TooLong r = absurd (too_long (words_length c) r)
  where
    too_long : length (words_of c) ≡ length c → 4096 < length (words_of c) → ⊥
    too_long e l = omega arith
refused_for_memory each c h short sound (NotInstruction k) r =
    let first : FirstNone (words_of c) k = r.1 in
    let there : (i : Instruction) × InRange i × (word_of i ≡ get_or (words_of c) (k - 1) 0) =
    word_at c h (k - 1) (let e : length (words_of c) ≡ length c = words_length c in omega (arith, first.counted, first.within)) in
    absurd (first.none there.0 there.1 there.2)
refused_for_memory each c h short sound (OutOfBounds k) r =
    let first : FirstOutside (length (words_of c)) r.1.instructions k = r.1.first in
    let same : r.1.instructions ≡ instructions c = decoded each c h r.1.instructions r.1.decodes in
    let all : all_inside (length (words_of c)) (first.before ++ first.here ∷ first.after) ≡ true =
    ap (λ (is : List Instruction). all_inside (length (words_of c)) is) (sym first.parts ∙ same)
    ∙ ap (λ (n : ℕ). all_inside n (instructions c)) (words_length c)
    ∙ sound in
    absurd (clash (middle_inside (length (words_of c)) first.before first.here first.after all) first.bad)
refused_for_memory each c h short sound NoMemory r = refl

between : (a n b : ℕ) → a ≤ n → n ≤ b → leb a n && leb n b ≡ true
between a n b h k = both (leb a n) (leb n b) (is_true (leb a n) (le→leb a n h)) (is_true (leb n b) (le→leb n b k))

within_inside : (len : ℕ) (i : Instruction) → Within 1 (suc len) i → inside len i ≡ true
within_inside len (Read n) h = between 1 n 64 h.0 h.1
within_inside len (Write n) h = between 1 n 64 h.0 h.1
within_inside len (Load n) h = between 1 n 64 h.0 h.1
within_inside len (Store n) h = between 1 n 64 h.0 h.1
within_inside len (Jump n) h = between 1 n (len + 1) h.0 (omega (arith, h.1))
within_inside len (JumpIfZero n) h = between 1 n (len + 1) h.0 (omega (arith, h.1))
within_inside len (Literal z) h = refl
within_inside len Add h = refl
within_inside len Subtract h = refl
within_inside len Multiply h = refl
within_inside len Divide h = refl
within_inside len Modulo h = refl
within_inside len Less h = refl
within_inside len Equal h = refl
within_inside len Unequal h = refl
within_inside len Greater h = refl
within_inside len AtMost h = refl
within_inside len AtLeast h = refl

all_inside_lem : (len : ℕ) (c : Code) → AllByRecursion (λ x. Within 1 (suc len) x.0) c → all_inside len (instructions c) ≡ true
all_inside_lem len [] h = refl
all_inside_lem len (x ∷ c) h =
    both (inside len x.0) (all_inside len (instructions c)) (within_inside len x.0 h.0) (all_inside_lem len c h.1)

pub always_admitted : OneWordEach → AlwaysAdmitted
always_admitted each p named fits short e r =
    refused_for_memory each (code_of p) fits short (all_inside_lem (length (code_of p)) (code_of p) (stays_inside p named)) e r

pub calls_mean_sources : OneWordEach → CallsMeanSources
calls_mean_sources each source p U t lid cs r k =
    let same : k.image ≡ instructions (code_of p) = decoded each (code_of p) k.fits k.image k.admitted in
    let reached : Reached U (instructions (code_of p)) lid t cs k.run = subst (λ (is : List Instruction). Reached U is lid t cs k.run) same k.reached in
    let report : finish lid (instructions (code_of p)) (places (code_of p)) k.run ≡ r =
    sym (k.finished ∙ ap (λ (is : List Instruction). finish lid is (places (code_of p)) k.run) same) in
    subst (λ q. Promised U p t lid cs q) report
    (histories_mean_sources lid (code_of p) k.run U p refl (shallow source k.tree p k.spelled) t cs reached)

drive_means : OneWordEach → (source : List ℕ) (p : Program Name) (U : ArithmeticUnit) (t : Tapes) (lid : ℕ) (ns : List ℕ) (r : Report) →
    Drive source p U t lid ns r → r ≡ meaning U p t lid (min lid (total ns))
drive_means each source p U t lid ns r k =
    k.finished
    ∙ ap (λ (is : List Instruction). finish lid is (places (code_of p)) (advances U is lid ns (start t))) (decoded each (code_of p) k.fits k.image k.admitted)
    ∙ runs_mean_sources U p (shallow source k.tree p k.spelled) t lid ns

pub drives_mean_sources : OneWordEach → DrivesMeanSources
drives_mean_sources each = record {
  means = drive_means each;
  other_unit = λ source p U t lid ns r k V lawU lawV h.
      drive_means each source p U t lid ns r k
      ∙ ap (λ (o : Outcome (Unit {0})). reported lid (min lid (total ns)) o) (units_agree.meanings U V lawU lawV p t (min lid (total ns)) h);
}
