-- What a Store is refused for, and a state's refusal as that of the rows that it is turned into.
use mathlib.Core.Path.{◌≡◌, refl, sym, ap, ap₂, ◌∙◌}
use Prim.Native.Nat.{ℕ, zero, suc, ◌<◌, ◌≤◌, min}
use native.Mathlib.Decide.{dec_lt}
use native.Mathlib.Omega.{arith}
use mathlib.Core.Bool.{Bool, true, false, cond}
use mathlib.Core.List.{List, [], ◌∷◌}
use lib.Dec.{eqb}
use lib.ListN.{length, take, get_elem?}
use borrow.Author.Tests.{lt-ltb, le-ltb}
use Rattle.records.specs.declared.Refusal.TheVariants.{Outside, OtherKind}
use Rattle.std.specs.Prelude.{Result, Ok, Err}
use Rattle.records.specs.declared.Refusal.{Refusal}
use Rattle.records.specs.Refusal.{verdict_of}
use Rattle.value.specs.declared.Value.{Value}
use Rattle.value.specs.declared.Value.TheVariants.{Undefined, Word}
use Rattle.cells.specs.Cells.{inside, load_from}
use Rattle.kernel.specs.Kernel.{read_at, write_at}
use Rattle.templates.specs.declared.Operand.{Operand}
use Rattle.templates.specs.declared.Operand.TheVariants.{Known, Waits}
use Rattle.templates.specs.declared.Register.{Register}
use Rattle.templates.specs.declared.State.{State}
use Rattle.templates.specs.Machine.{Itb, mach}
use Rattle.templates.specs.Layout.{places, itb, itbs, mach_of}
use Rattle.rows.specs.Rows.{Row, a_store, kind_at, first_at, second_at, memory_before}
use Rattle.rows.specs.Answers.{TurnsRegisters, TurnsTemplates}
use Rattle.rows.proofs.Walks.{take_least}
use Rattle.rows.proofs.Showing.{Shows, shown, tabled, shows_fewer, turned-registers, turned-file, map-take, turned_long, turned_shows}
use Rattle.rules.specs.declared.Rule.{Rule}
use Rattle.rules.specs.Drain.{refusal_at}
use Rattle.judge.specs.Reading.{needing, in_order, storing, stored_at, refusal_on}
use Rattle.judge.proofs.Answering.{refusal_shown}

-- ---- what a Store stores where

module _ (m : List Value) where
  abbrev stores : Result (Value × Value) Refusal → Result (List Value) Refusal
  stores (Ok w) = write_at m w.0 w.1
  stores (Err n) = Err n

  stored-of : (k b : Bool) (x y : Operand) → cond k (in_order b (needing (λ u. needing (λ v. write_at m u v) y) x)) (Err OtherKind)
      ≡ stores (cond k (in_order b (needing (λ u. needing (λ v. Ok (u, v)) y) x)) (Err OtherKind))
  stored-of false b x y = refl
  stored-of true true x y = refl
  stored-of true false (Known u) (Known v) = refl
  stored-of true false (Known u) (Waits t) = refl
  stored-of true false (Waits t) y = refl

  module _ (p : ℕ) (ts : List Row) where
    stored : storing m p ts ≡ stores (stored_at p ts)
    stored = stored-of (eqb (kind_at ts p) a_store) (memory_before p ts) (first_at ts p) (second_at ts p)

    pub stores_there : {u v : Value} → stored_at p ts ≡ Ok (u, v) → storing m p ts ≡ write_at m u v
    stores_there e = stored ∙ ap stores e

    pub stores_not : {why : Refusal} → stored_at p ts ≡ Err why → storing m p ts ≡ Err why
    stores_not e = stored ∙ ap stores e

-- ---- a load and a store at an address are refused alike

load_inside : (m : List Value) (k : ℕ) → k < length m → verdict_of (inside (get_elem? m k)) ≡ Ok tt
load_inside [] k h = absurd (omega arith)
load_inside (v ∷ m) zero h = refl
load_inside (v ∷ m) (suc k) h = load_inside m k (omega arith)

load-outside : (m : List Value) (k : ℕ) → length m ≤ k → verdict_of (inside (get_elem? m k)) ≡ Err Outside
load-outside [] k h = refl
load-outside (v ∷ m) zero h = absurd (omega arith)
load-outside (v ∷ m) (suc k) h = load-outside m k (omega arith)

pub refused-alike : (m : List Value) (u v : Value) → verdict_of (read_at m u) ≡ verdict_of (write_at m u v)
unfolding load_from
refused-alike m Undefined v = refl
refused-alike m (Word w) v = at (dec_lt w (length m))
  where
    at : Dec (w < length m) → verdict_of (inside (get_elem? m w)) ≡ verdict_of (write_at m (Word w) v)
    at (yes h) = rw (lt-ltb w (length m) h) (load_inside m w h)
    at (no h) = rw (le-ltb w (length m) (omega arith)) (load-outside m w (omega arith))

-- ---- a state, of which n templates were looked at

module _ (s : State) {ts : List Row} (u : TurnsTemplates s.templates ts) {rf : List ℕ} (v : TurnsRegisters s.registers rf) where
  pub asked : (r : Rule) (p : ℕ) (m : List Value) {n : ℕ} {k : Result (Unit {0}) Refusal} → k ≡ refusal_on n p ts rf m r → n ≡ min s.count places → k ≡ refusal_at r p (mach_of s) m
  asked r p m {n} k e =
      let few : n ≤ places = omega (arith, e) in
      let first : Shows n ts (take n (itbs s.templates)) = shows_fewer (turned_shows u) n few in
      let same : take n s.templates ≡ take s.count s.templates = take_least n s.count s.templates (e ∙ ap (min s.count) (sym u.long)) in
      k ∙ refusal_shown (tabled first (turned_long u) few) (turned-file v) s.counter m p r
      ∙ ap₂ (λ (rs : List Register) (xs : List Itb). refusal_at r p (mach s.counter rs xs) m) (turned-registers v) (shown first ∙ sym (map-take itb n s.templates) ∙ ap itbs same)
