-- A state turned into the working table is sound there exactly when it is sound.
use mathlib.Core.Path.{◌≡◌, refl, sym, ap, ap₂, subst, ◌∙◌}
use Prim.Native.Nat.{ℕ, ◌≤◌}
use native.Mathlib.Decide.{dec_le}
use native.Mathlib.Omega.{arith}
use mathlib.Core.Bool.{Bool, true, false, ◌&&◌, ◌||◌, not, true≢false}
use mathlib.Core.List.{List, [], ◌∷◌, map}
use lib.ListN.{length, drop}
use lib.Seq.{take_all}
use borrow.Author.Tests.{le-leb, lt-leb}
use Rattle.templates.specs.declared.Counter.{Counter}
use Rattle.templates.specs.declared.State.{State}
use Rattle.templates.specs.declared.Template.{Template}
use Rattle.templates.specs.Templates.{any}
use Rattle.templates.specs.Machine.{Itb, mach, room}
use Rattle.templates.specs.Layout.{places, itb, itbs, mach_of}
use Rattle.rows.specs.Rows.{Row, row_of, is_filled, filled_from}
use Rattle.rows.specs.Shown.{held_of, regs_of}
use Rattle.rows.specs.Answers.{Small, All, TurnsRegisters}
use Rattle.rows.proofs.Coding.{test, filled_row}
use Rattle.rows.proofs.Showing.{Shows, shown, shows_fewer, held_size, turned-registers, map-take, map-drop, all_drop}
use Rattle.sound.specs.Sound.{none, after_all, templates_ok, registers_ok, counter_ok, is_blank, all_blank, sound_mach, is_sound}
use Rattle.sound.specs.Search.{sound_on}
use Rattle.sound.proofs.Decides.{is_blank_lem}

-- ---- a row is filled where the template isn't blank

not_filled : (x : Template) → Small (itb x) → not (is_filled (row_of (itb x))) ≡ is_blank x
not_filled x s =
    test (is_blank x)
    (λ e. rw e (ap (λ (y : Template). not (is_filled (row_of (itb y)))) (is_blank_lem x e)))
    (λ e. rw e (test (is_filled (row_of (itb x))) (λ f. rw f refl) (λ f. absurd (true≢false (ap (λ (y : Itb). is_blank (record { address = y.address; work = y.work })) (sym (filled_row (itb x) s f)) ∙ e)))))

-- of none is filled where all are blank
none_filled : (xs : List Template) → All Small (itbs xs) → not (any is_filled (map row_of (itbs xs))) ≡ all_blank xs
none_filled [] s = refl
none_filled (x ∷ xs) s = neither_is (is_filled (row_of (itb x))) (any is_filled (map row_of (itbs xs))) ∙ ap₂ ◌&&◌ (not_filled x s.0) (none_filled xs s.1)
  where
    neither_is : (a b : Bool) → not (a || b) ≡ (not a && not b)
    neither_is true b = refl
    neither_is false b = refl

-- ---- the tests of few templates, in the code's order

pub tests_on : (k : ℕ) (c : Counter) (n : ℕ) (ts : List Row) (rf : List ℕ) → n ≤ room → n ≤ length ts
    → sound_mach k (mach c (regs_of rf) (held_of n ts)) ≡ (templates_ok k none (held_of n ts) && (registers_ok (after_all (held_of n ts) none) (regs_of rf) && counter_ok c (held_of n ts)))
unfolding sound_mach
tests_on k c n ts rf h l = rw (le-leb (length (held_of n ts)) room (omega (arith, held_size n ts l, h))) refl

-- ---- the state

module _ (s : State) {ts : List Row} (size : length ts ≡ places) (u : Shows places ts (itbs s.templates)) {rf : List ℕ} (v : TurnsRegisters s.registers rf) where
  abbrev n : ℕ
  n = s.count

  filled_behind_lem : not (filled_from n ts) ≡ all_blank (drop n s.templates)
  filled_behind_lem =
      let all : ts ≡ map row_of (itbs s.templates) = sym (take_all places ts (omega (arith, size))) ∙ u.rows in
      let same : drop n ts ≡ map row_of (itbs (drop n s.templates)) = ap (drop n) all ∙ sym (map-drop row_of n (itbs s.templates)) ∙ ap (map row_of) (sym (map-drop itb n s.templates)) in
      let small : All Small (itbs (drop n s.templates)) = subst (All Small) (sym (map-drop itb n s.templates)) (all_drop Small n (itbs s.templates) u.small) in
      ap (λ (xs : List Row). not (any is_filled xs)) same ∙ none_filled (drop n s.templates) small

  pub machine_shown : n ≤ places → mach s.counter (regs_of rf) (held_of n ts) ≡ mach_of s
  machine_shown h = ap₂ (mach s.counter) (turned-registers v) (shown (shows_fewer u n h) ∙ sym (map-take itb n s.templates))

  same : (k : ℕ) → sound_on k s.counter n ts rf ≡ is_sound k s
  unfolding is_sound
  same k = which (dec_le n places)
    where
      which : Dec (n ≤ places) → sound_on k s.counter n ts rf ≡ is_sound k s
      which (yes h) = rw (le-leb n (length ts) (omega (arith, size)), filled_behind_lem, machine_shown h) refl
      which (no h) = rw (lt-leb n room (omega arith)) refl

  pub sound_turned : (k : ℕ) {r : Bool} → r ≡ sound_on k s.counter n ts rf → r ≡ is_sound k s
  sound_turned k e = e ∙ same k
