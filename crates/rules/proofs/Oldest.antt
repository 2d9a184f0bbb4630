-- The drain's next rule is the oldest that is allowed, and there is none only where no rule is allowed.
use Prim.Native.Nat.{ℕ, zero, suc, ◌+◌, ◌≤◌, ◌<◌}
use native.Mathlib.Decide.{dec_lt}
use native.Mathlib.Omega.{arith}
use mathlib.Core.Path.{◌≡◌, refl, sym, ap, ◌∙◌}
use mathlib.Core.List.{List, [], ◌∷◌}
use lib.ListN.{length}
use borrow.Author.Tests.{le-ltb}
use Rattle.value.specs.declared.Value.{Value}
use Rattle.templates.specs.Machine.{Mach}
use Rattle.rules.specs.declared.Rule.{Rule}
use Rattle.rules.specs.declared.Rule.TheVariants.{Operate, Forward, Commit, Retire, Load, Store, Jump, NoJump}
use Rattle.rules.specs.declared.Command.TheVariants.{Apply}
use Rattle.rules.specs.Rules.{Step, accepted, refused, apply}
use Rattle.rules.specs.Schedule.{command_of}
use Rattle.rules.specs.Drain.{first, rules, first_of, seek, oldest}
use Rattle.rules.specs.Moves.{Move, move, Refused, Stuck}
use Rattle.rules.specs.OldestFirst.{number, Oldest}

-- ---- a rule's number is a schedule's

pub number_names : (r : Rule) (place : ℕ) → command_of (number r) place 0 0 ≡ Apply r place
unfolding command_of
number_names Operate place = refl
number_names Forward place = refl
number_names Commit place = refl
number_names Retire place = refl
number_names Load place = refl
number_names Store place = refl
number_names Jump place = refl
number_names NoJump place = refl

pub same_number : (r s : Rule) → number r ≡ number s → r ≡ s
same_number r s e =
    let same : Apply r 0 ≡ Apply s 0 = sym (number_names r 0) ∙ ap (λ (n : ℕ). command_of n 0 0 0) e ∙ number_names s 0 in
    cc

number_in_range : (r : Rule) → (1 < number r) × (number r < 10)
number_in_range Operate = (omega arith, omega arith)
number_in_range Forward = (omega arith, omega arith)
number_in_range Commit = (omega arith, omega arith)
number_in_range Retire = (omega arith, omega arith)
number_in_range Load = (omega arith, omega arith)
number_in_range Store = (omega arith, omega arith)
number_in_range Jump = (omega arith, omega arith)
number_in_range NoJump = (omega arith, omega arith)

pub refused_not : {r : Step} {σ : Mach} {m : List Value} → Refused r → r ≡ accepted σ m → ⊥
refused_not h e = rw e at h

module _ (σ : Mach) (m : List Value) where
  -- ---- at one place

  module _ (place : ℕ) where
    -- no rule of a number below n is allowed
    abbrev Lower : ℕ → Type 0
    Lower n = (r : Rule) → number r < n → Refused (apply r place σ m)

    abbrev Chosen : Step → Type 0
    Chosen (accepted σ' m') = (r : Rule) × (apply r place σ m ≡ accepted σ' m') × Lower (number r)
    Chosen (refused n) = (r : Rule) → Refused (apply r place σ m)

    -- the rules from number n on
    abbrev From : ℕ → List Rule → Type 0
    From n [] = n ≡ 10
    From n (r ∷ rs) = (number r ≡ n) × From (suc n) rs

    higher : (n : ℕ) (r : Rule) → number r ≡ n → Lower n → Refused (apply r place σ m) → Lower (suc n)
    higher n r e l h u q = which (dec_lt (number u) n)
      where
        which : Dec (number u < n) → Refused (apply u place σ m)
        which (yes b) = l u b
        which (no b) =
            let same : number u ≡ number r = omega arith in
            rw (same_number u r same) h

    choose : (n : ℕ) (rs : List Rule) → From n rs → Lower n → Chosen (first_of rs place σ m)
    choose n [] f l = λ r. l r (rw f (number_in_range r).1)
    choose n (r ∷ rs) f l = try (apply r place σ m) refl (λ h. choose (suc n) rs f.1 (higher n r f.0 l h))
      where
        try : (s : Step) → apply r place σ m ≡ s → (Refused (apply r place σ m) → Chosen (first_of rs place σ m)) → Chosen (first s (first_of rs place σ m))
        try (accepted σ' m') e rest = (r, e, rw f.0 l)
        try (refused k) e rest = rest (rw e tt)

    chosen : Chosen (first_of rules place σ m)
    chosen = choose 2 rules (refl, (refl, (refl, (refl, (refl, (refl, (refl, (refl, refl)))))))) (λ r l. absurd (omega (arith, (number_in_range r).0)))

  -- ---- at every place

  -- no rule at a place below p is allowed
  abbrev Earlier : ℕ → Type 0
  Earlier p = (v : Move) → v.place < p → Refused (move v σ m)

  abbrev pub Found : Step → Type 0
  Found (accepted σ' m') = (v : Move) × (move v σ m ≡ accepted σ' m') × Oldest v σ m
  Found (refused n) = Stuck σ m

  outside : (v : Move) → length σ.held ≤ v.place → Refused (move v σ m)
  unfolding apply
  outside v l = rw (le-ltb v.place (length σ.held) l) tt

  later : (p : ℕ) → Earlier p → ((r : Rule) → Refused (apply r p σ m)) → Earlier (suc p)
  later p l h v q = which (dec_lt v.place p)
    where
      which : Dec (v.place < p) → Refused (move v σ m)
      which (yes b) = l v b
      which (no b) =
          let here : v.place ≡ p = omega arith in
          rw here (h v.rule)

  find : (n p : ℕ) → p + n ≡ length σ.held → Earlier p → Found (seek n p σ m)
  find zero p e l = λ v. which v (dec_lt v.place p)
    where
      which : (v : Move) → Dec (v.place < p) → Refused (move v σ m)
      which v (yes b) = l v b
      which v (no b) = outside v (omega arith)
  find (suc n) p e l = try (first_of rules p σ m) (seek n (suc p) σ m) (chosen p) (λ h. find n (suc p) (omega arith) (later p l h))
    where
      try : (s behind : Step) → Chosen p s → (((r : Rule) → Refused (apply r p σ m)) → Found behind) → Found (first s behind)
      try (accepted σ' m') behind c rest =
          (record { rule = c.0; place = p }, c.1, record { place = l; rule = λ u here q. rw here (c.2 u.rule q) })
      try (refused k) behind c rest = rest c

  pub found : Found (oldest σ m)
  unfolding oldest
  found = find (length σ.held) 0 (omega arith) (λ v l. absurd (omega arith))

  -- ---- there is only one

  module _ (v w : Move) {σ₁ σ₂ : Mach} {m₁ m₂ : List Value} (e : move v σ m ≡ accepted σ₁ m₁) (f : move w σ m ≡ accepted σ₂ m₂)
      (o : Oldest v σ m) (q : Oldest w σ m) where
    same_place : v.place ≡ w.place
    same_place =
        let a : ¬ (v.place < w.place) = λ l. refused_not (q.place v l) e in
        let b : ¬ (w.place < v.place) = λ l. refused_not (o.place w l) f in
        omega arith

    same_rule : v.rule ≡ w.rule
    same_rule =
        let a : ¬ (number v.rule < number w.rule) = λ l. refused_not (q.rule v same_place l) e in
        let b : ¬ (number w.rule < number v.rule) = λ l. refused_not (o.rule w (sym same_place) l) f in
        same_number v.rule w.rule (omega arith)

    pub one-oldest : v ≡ w
    one-oldest = λ i. record { rule = same_rule i; place = same_place i }

  pub oldest_is : (v : Move) {σ' : Mach} {m' : List Value} → move v σ m ≡ accepted σ' m' → Oldest v σ m → oldest σ m ≡ accepted σ' m'
  oldest_is v {σ'} {m'} e o = which (oldest σ m) found
    where
      which : (s : Step) → Found s → s ≡ accepted σ' m'
      which (accepted σ'' m'') f = sym f.1 ∙ ap (λ (u : Move). move u σ m) (one-oldest f.0 v f.1 e f.2 o) ∙ e
      which (refused n) f = absurd (refused_not (f v) e)
