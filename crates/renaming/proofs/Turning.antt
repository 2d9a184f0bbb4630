-- A state turned into the working table shows its machine, and what the table shows is laid out again.
use mathlib.Core.Path.{◌≡◌, refl, sym, ap, subst, ◌∙◌}
use mathlib.Core.Logic.{◌≢◌}
use Prim.Native.Nat.{ℕ, ◌/◌, ◌<◌}
use native.Mathlib.Omega.{arith}
use mathlib.Core.Bool.{Bool, true, false, cond}
use mathlib.Core.List.{List, [], ◌∷◌}
use lib.ListN.{length, get_or}
use Rattle.std.specs.Prelude.{Result, Err}
use Rattle.records.specs.declared.Fault.{Fault}
use Rattle.records.specs.declared.Refusal.{Refusal}
use Rattle.records.specs.declared.Refusal.TheVariants.{Unsound}
use Rattle.records.specs.Scan.{refused, accepted}
use Rattle.value.specs.declared.Value.{Value}
use Rattle.kernel.specs.Checks.{first, checked}
use Rattle.templates.specs.declared.Counter.{Counter}
use Rattle.templates.specs.declared.Register.{Register}
use Rattle.templates.specs.declared.Template.{Template}
use Rattle.templates.specs.declared.State.{State}
use Rattle.templates.specs.Machine.{Itb, nothing, Mach, mach}
use Rattle.templates.specs.Layout.{places, template, itbs, mach_of, state_of, Laid}
use Rattle.sound.specs.Sound.{sound_mach}
use Rattle.sound.specs.Search.{sound_on}
use Rattle.sound.proofs.Turned.{machine_shown, sound_turned}
use Rattle.cells.specs.Cells.{Formed}
use Rattle.entry.specs.Entry.{entered, Enters}
use Rattle.rows.specs.Rows.{Row, row_at, itb_of}
use Rattle.rows.specs.Shown.{held_of, regs_of, laid_templates, laid_registers}
use Rattle.rows.specs.Answers.{TurnsRegisters, TurnsTemplates}
use Rattle.rows.proofs.Showing.{Shows, tabled, shows_fewer, here, held_long, turned-file, turned_long, turned_shows, back_templates, back_registers}
use Rattle.rules.specs.declared.Rule.{Rule}
use Rattle.rules.specs.Drain.{asks, refusal_at, blocking}
use Rattle.judge.specs.Reading.{refusal_on}
use Rattle.judge.proofs.Answering.{refusal_shown}
use Rattle.renaming.specs.Working.{Coded, entered_on, Ready}
use Rattle.renaming.proofs.Fitting.{entered-program, entered-memory, entered-fit}

-- ---- the way in

module _ (p b : List ℕ) (c : Counter) (n : ℕ) (ts : List Row) (rf : List ℕ) where
  -- the program or the memory refused
  pub on_refused : {f : Fault} → checked p b ≡ Err f → Err f ≡ entered_on p b c n ts rf
  on_refused e = rw (e) refl

  -- or the machine, or none of them
  module _ (h : checked p b ≡ accepted) {r : Bool} (e : r ≡ sound_on (length p / 8) c n ts rf) where
    pub on_unsound : r ≡ false → {f : Fault} → f ≡ record { refusal = Unsound; number = 0 } → Err f ≡ entered_on p b c n ts rf
    on_unsound q k = rw (h, ← e, q, k) refl

    pub on_sound : r ≡ true → accepted ≡ entered_on p b c n ts rf
    on_sound q = rw (h, ← e, q) refl

-- the checks of the table that a state is turned into are those of the state
module _ (s : State) {ts : List Row} (size : length ts ≡ places) (u : Shows places ts (itbs s.templates)) {rf : List ℕ} (v : TurnsRegisters s.registers rf) where
  pub in_enters : (p b : List ℕ) → length s.templates ≡ places → {w : Result (Unit {0}) Fault} → w ≡ entered_on p b s.counter s.count ts rf → Enters p b s w
  unfolding entered
  in_enters p b long e =
      record {
        verdict = e ∙ ap (λ (t : Bool). first (checked p b) (cond t accepted (refused Unsound 0))) (sound_turned s size u v (length p / 8) refl);
        long = long;
      }

-- and those checks passed, it shows the state's machine, which is sound
module _ (p b : List ℕ) (s : State) {ts : List Row} (u : TurnsTemplates s.templates ts) {rf : List ℕ} (v : TurnsRegisters s.registers rf)
    {w : Result (Unit {0}) Fault} (e : w ≡ entered_on p b s.counter s.count ts rf) where
  checks : Enters p b s w
  checks = in_enters s (turned_long u) (turned_shows u) v p b u.long e

  pub kept_out : {f : Fault} → w ≡ Err f → entered p b s ≡ Err f
  kept_out q = sym checks.verdict ∙ q

  module _ (q : w ≡ accepted) where
    pub came_in : entered p b s ≡ accepted
    came_in = sym checks.verdict ∙ q

    laid : Laid s
    laid = (entered-fit p b s checks q).laid

    pub in_coded : Coded s.count ts rf
    in_coded = record { table = tabled (shows_fewer (turned_shows u) s.count laid.within) (turned_long u) laid.within; file = turned-file v }

    pub in_machine : mach s.counter (regs_of rf) (held_of s.count ts) ≡ mach_of s
    in_machine = machine_shown s (turned_long u) (turned_shows u) v laid.within

    pub in_ready : Ready p (mach s.counter (regs_of rf) (held_of s.count ts))
    in_ready =
        record {
          sound = subst (λ (τ : Mach). sound_mach (length p / 8) τ ≡ true) (sym in_machine) (entered-fit p b s checks q).sound;
          scanned = entered-program p b s checks q;
        }

    pub in_memory : ((i : ℕ) → get_or b i 0 < 256) → Formed b
    in_memory small = entered-memory p b s checks q small

-- ---- laid out again, and what blocks: the oldest template

front : (σ : Mach) (m : List Value) (xs : List Itb) → 0 < length xs → blocking σ m xs ≡ refusal_at (asks (get_or xs 0 nothing).work) 0 σ m
front σ m [] h = absurd (omega (arith, h))
front σ m (x ∷ xs) h = refl

module _ {n : ℕ} {ts : List Row} {rf : List ℕ} (w : Coded n ts rf) {c : Counter} {σ : Mach} (v : mach c (regs_of rf) (held_of n ts) ≡ σ) where
  pub state_back : {left : List Template} → left ≡ laid_templates n ts → {held : List Register} → held ≡ laid_registers rf
      → record { counter = c; registers = held; templates = left; count = n } ≡ state_of σ
  state_back e q =
      let a = e ∙ back_templates w.table in
      let b = q ∙ back_registers w.file in
      let k = sym (held_long w.table) in
      (λ i. record { counter = c; registers = b i; templates = a i; count = k i }) ∙ ap state_of v

  pub oldest_blocks : n ≢ 0 → (m : List Value) {x : Template} → x ≡ template (itb_of (row_at ts 0)) → {q : Rule} → q ≡ asks x.work
      → {r : Result (Unit {0}) Refusal} → r ≡ refusal_on n 0 ts rf m q → r ≡ blocking σ m σ.held
  oldest_blocks h m e {q} a {r} g =
      let τ = mach c (regs_of rf) (held_of n ts) in
      let some : 0 < length (held_of n ts) = omega (arith, held_long w.table, h) in
      let oldest : itb_of (row_at ts 0) ≡ get_or (held_of n ts) 0 nothing = here w.table (omega (arith, h)) in
      let same = a ∙ ap (λ (x : Template). asks x.work) e ∙ ap (λ (y : Itb). asks y.work) oldest in
      g ∙ refusal_shown w.table w.file c m 0 q ∙ ap (λ (r : Rule). refusal_at r 0 τ m) same ∙ sym (front τ m (held_of n ts) some)
      ∙ ap (λ (x : Mach). blocking x m x.held) v
