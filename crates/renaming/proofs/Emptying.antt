-- The loop of a drain is the drain.
use mathlib.Core.Path.{◌≡◌, refl, sym, ap, subst, ◌∙◌}
use mathlib.Core.Logic.{◌≢◌}
use Prim.Native.Nat.{ℕ, zero, suc, ◌+◌, ◌-◌, ◌<◌, ◌≤◌}
use native.Mathlib.Numerals.{add-one}
use native.Mathlib.Omega.{arith}
use mathlib.Core.Bool.{true, false}
use mathlib.Core.List.{List, [], ◌∷◌}
use lib.ListN.{length, get_or, take, drop}
use borrow.Author.Tests.{lt-ltb}
use Rattle.std.specs.Prelude.{Result, Ok, Err}
use Rattle.records.specs.declared.Fault.{Fault}
use Rattle.records.specs.declared.Refusal.{Refusal}
use Rattle.records.specs.declared.Refusal.TheVariants.{NoTemplate}
use Rattle.records.specs.Refusal.{faulted}
use Rattle.records.specs.Scan.{accepted}
use Rattle.value.specs.declared.Value.{Value}
use Rattle.isa.specs.declared.InstrAddr.{InstrAddr}
use Rattle.cells.specs.Cells.{cells, image, Formed}
use Rattle.kernel.proofs.Checking.{refuses, works}
use Rattle.templates.specs.declared.Counter.{Counter}
use Rattle.templates.specs.declared.State.{State}
use Rattle.templates.specs.declared.Work.{Work}
use Rattle.templates.specs.Machine.{Itb, nothing, Mach, mach}
use Rattle.templates.specs.Layout.{mach_of, state_of}
use Rattle.sound.proofs.Decides.{sound_said}
use Rattle.rows.specs.Rows.{Row, a_value, an_op, a_jz, a_load, row_at, itb_of, kind_at, tag_at, held_behind, in_register}
use Rattle.rows.specs.Rows as Rows
use Rattle.rows.specs.Shown.{held_of, regs_of}
use Rattle.rows.proofs.Showing.{here, searched, searched_registers}
use Rattle.rows.proofs.Works.{work-value, work_op, work_jz, work-load, work-store}
use Rattle.rules.specs.declared.Rule.{Rule}
use Rattle.rules.specs.Rules as Rules
use Rattle.rules.specs.Rules.{Step, refused, rule, apply}
use Rattle.rules.specs.Drain.{first, rules, first_of, seek, oldest, Drained, further, drain_from, drain, due, due_value, due_jump, blocking, blocked_at}
use Rattle.rules.proofs.Due.{first_at, same}
use Rattle.rules.proofs.Keeping.{StaysSound, apply_keeps_sound}
use Rattle.entry.specs.Entry.{entered}
use Rattle.renaming.specs.declared.Settled.{Settled}
use Rattle.renaming.specs.Entries.{settled, drained, drained_memory, Drains, Empties}
use Rattle.renaming.specs.Working.{Coded, Inside, Acts, DrainsTo}
use Rattle.renaming.proofs.Steps.{came_accepted, came_refused, place}

-- ---- the rule that is due is the first of all that is accepted

module _ (p : ℕ) (σ : Mach) (h : p < length σ.held) (m : List Value) where
  abbrev it : Itb
  it = get_or σ.held p nothing

  abbrev pre : List Itb
  pre = take p σ.held

  abbrev post : List Itb
  post = drop (suc p) σ.held

  at : (r : Rule) → apply r p σ m ≡ rule r σ m pre it.address post it.work
  unfolding apply
  at r = rw (lt-ltb p (length σ.held) h) refl

  first_at_lem : (qs : List Rule) → first_of qs p σ m ≡ first_at σ m pre it.address post it.work qs
  first_at_lem [] = refl
  first_at_lem (r ∷ qs) = (λ i. first (at r i) (first_at_lem qs i))

  due-first : (other : Step) → first (first_of rules p σ m) other ≡ first (apply (due σ.registers post it.work) p σ m) other
  due-first other = rw (first_at_lem rules, at (due σ.registers post it.work)) (same σ m pre it.address post other it.work)

-- ---- the loop of a drain

-- the drain after k rules, with so many more at most, once its search has come to t
abbrev turn : ℕ → ℕ → Mach → List Value → Step → Drained
turn zero k σ m t = record { rules = k; machine = σ; memory = m }
turn (suc fuel) k σ m t = further (λ σ' m'. drain_from fuel (k + 1) σ' m') (record { rules = k; machine = σ; memory = m }) t

turn-first : (fuel k : ℕ) (σ : Mach) (m : List Value) → drain_from fuel k σ m ≡ turn fuel k σ m (oldest σ m)
unfolding drain_from
turn-first zero k σ m = refl
turn-first (suc fuel) k σ m = refl

-- of n templates, the search from place p on
abbrev from : ℕ → ℕ → Mach → List Value → Step
from n p σ m = seek (n - p) p σ m

from_first : (n : ℕ) (σ : Mach) → length σ.held ≡ n → (m : List Value) → oldest σ m ≡ from n 0 σ m
unfolding oldest
from_first n σ l m = let all : length σ.held ≡ n - 0 = omega (arith, l) in ap (λ (k : ℕ). seek k 0 σ m) all

-- the drain from here on is the whole drain d
pub record Left (d : Drained) (b₀ : List ℕ) (σ : Mach) (b : List ℕ) (k p : ℕ) : Type 0 where
  pub rest : turn (256 - k) k σ (cells b) (from (length σ.held) p σ (cells b)) ≡ d
  pub inside : Inside σ
  pub below : k ≤ 256
  pub within : p ≤ length σ.held
  pub formed : Formed b₀ → Formed b

pub drain_begins : (σ : Mach) (b : List ℕ) → Inside σ → Left (drain σ (cells b)) b σ b 0 0
drain_begins σ b i =
    record {
      rest = ap (turn 256 0 σ (cells b)) (sym (from_first (length σ.held) σ refl (cells b))) ∙ sym (turn-first 256 0 σ (cells b));
      inside = i;
      below = omega arith;
      within = omega arith;
      formed = λ h. h;
    }

module _ {d : Drained} {b₀ : List ℕ} {σ : Mach} {b : List ℕ} {k p : ℕ} (l : Left d b₀ σ b k p) where
  abbrev n : ℕ
  n = length σ.held

  -- where the loop is left, the machine is as it is
  ends : record { rules = k; machine = σ; memory = cells b } ≡ d → DrainsTo d b₀ k σ b
  ends e = record { end = e; formed = l.formed }

  pub drain_spent : 256 ≤ k → DrainsTo d b₀ k σ b
  drain_spent h =
      let none : 0 ≡ 256 - k = omega arith in
      ends (ap (λ (j : ℕ). turn j k σ (cells b) (from n p σ (cells b))) none ∙ l.rest)

  module _ (h : k < 256) where
    another : (t : Step) → turn (256 - k) k σ (cells b) t
        ≡ further (λ τ m. drain_from (256 - (k + 1)) (k + 1) τ m) (record { rules = k; machine = σ; memory = cells b }) t
    another t = let more : 256 - k ≡ suc (256 - (k + 1)) = omega arith in ap (λ (j : ℕ). turn j k σ (cells b) t) more

    pub drain_stops : n ≤ p → DrainsTo d b₀ k σ b
    drain_stops q =
        let none : 0 ≡ n - p = omega arith in
        ends (sym (another (refused NoTemplate)) ∙ ap (λ (i : ℕ). turn (256 - k) k σ (cells b) (seek i p σ (cells b))) none ∙ l.rest)

    module _ (q : p < n) {r : Rule} (e : r ≡ due σ.registers (drop (suc p) σ.held) (get_or σ.held p nothing).work)
        {v : Result (Unit {0}) Refusal} {σ' : Mach} {b' : List ℕ} (a : Acts (apply r p) σ b v σ' b') where
      abbrev tried : Step
      tried = apply r p σ (cells b)

      here-first : from n p σ (cells b) ≡ first tried (from n (p + 1) σ (cells b))
      here-first =
          let more : n - p ≡ suc (n - (p + 1)) = omega arith in
          let later = from n (p + 1) σ (cells b) in
          ap (λ (i : ℕ). seek i p σ (cells b)) more
          ∙ ap (λ (i : ℕ). first (first_of rules p σ (cells b)) (seek (n - (p + 1)) i σ (cells b))) (sym (add-one p))
          ∙ due-first p σ q (cells b) later
          ∙ ap (λ (x : Rule). first (apply x p σ (cells b)) later) (sym e)

      pub drain_again : {x : Unit {0}} → v ≡ Ok x → Left d b₀ σ' b' (k + 1) 0
      drain_again z =
          let i = l.inside in
          let went : tried ≡ Rules.accepted σ' (cells b') = came_accepted a.does z in
          let kept = subst (StaysSound i.0) went (apply_keeps_sound i.0 r p σ (cells b) ((sound_said i.0 σ).holds i.2)) in
          let found : from n p σ (cells b) ≡ Rules.accepted σ' (cells b') = here-first ∙ ap (λ (t : Step). first t (from n (p + 1) σ (cells b))) went in
          record {
            rest =
                ap (turn (256 - (k + 1)) (k + 1) σ' (cells b')) (sym (from_first (length σ'.held) σ' refl (cells b')))
                ∙ sym (turn-first (256 - (k + 1)) (k + 1) σ' (cells b'))
                ∙ sym (another (Rules.accepted σ' (cells b')))
                ∙ ap (turn (256 - k) k σ (cells b)) (sym found)
                ∙ l.rest;
            inside = (i.0, i.1, (sound_said i.0 σ').says kept);
            below = omega arith;
            within = omega arith;
            formed = λ f. a.formed (l.formed f);
          }

      -- a refused rule leaves what is shown
      pub drain_on : {why : Refusal} → v ≡ Err why → Left d b₀ σ' b' k (p + 1)
      drain_on z =
          let no = came_refused a.does z in
          let left : from n p σ (cells b) ≡ from n (p + 1) σ (cells b) = here-first ∙ ap (λ (t : Step). first t (from n (p + 1) σ (cells b))) no.0 in
          let count : length σ'.held ≡ n = ap (λ (x : Mach). length x.held) no.1 in
          record {
            rest =
                (λ i. turn (256 - k) k (no.1 i) (no.2 i) (from (length (no.1 i).held) (p + 1) (no.1 i) (no.2 i)))
                ∙ ap (turn (256 - k) k σ (cells b)) (sym left)
                ∙ l.rest;
            inside = subst Inside (sym no.1) l.inside;
            below = l.below;
            within = omega (arith, count, q);
            formed = λ f. a.formed (l.formed f);
          }

-- ---- the entry

module _ (p : List ℕ) (s : State) (b : List ℕ) {v : Result (Unit {0}) Fault} (c : v ≡ entered p b s) where
  pub drain-refused : {f : Fault} → v ≡ Err f → Drains p s b (record { state = s; rules = 0; verdict = v; address = record { 0 = 0 } }) b
  unfolding drained drained_memory
  drain-refused h =
      record {
        answer =
            ap (λ (w : Result (Unit {0}) Fault). record { state = s; rules = 0; verdict = w; address = record { 0 = 0 } }) c
            ∙ sym (refuses (entered p b s) c h _ _);
        bytes = sym (refuses (entered p b s) c h _ b);
      }

  pub drain-done : v ≡ accepted → Formed b → {r : Settled} {b' : List ℕ} → Empties s b r b' → Drains p s b r b'
  unfolding drained drained_memory
  drain-done h f e =
      record {
        answer = e.answer ∙ sym (works (entered p b s) c h _ _);
        bytes = sym (e.formed f) ∙ ap image e.holds ∙ sym (works (entered p b s) c h _ b);
      }

module _ (p : List ℕ) (s : State) (b : List ℕ) where
  pub drain-out : {f : Fault} → entered p b s ≡ Err f → Drains p s b (record { state = s; rules = 0; verdict = Err f; address = record { 0 = 0 } }) b
  drain-out h = drain-refused p s b (sym h) refl

  pub drain-in : entered p b s ≡ accepted → Formed b → {σ : Mach} → σ ≡ mach_of s → {k : ℕ} {σ' : Mach} {b' : List ℕ} → DrainsTo (drain σ (cells b)) b k σ' b'
      → {left : State} → left ≡ state_of σ' → {u : Result (Unit {0}) Refusal} → u ≡ blocking σ' (cells b') σ'.held → {v : Result (Unit {0}) Fault} → v ≡ faulted u
      → {at : InstrAddr} → at ≡ blocked_at σ'.held → Drains p s b (record { state = left; rules = k; verdict = v; address = at }) b'
  drain-in h f q {k} g e w z j =
      let all = g.end ∙ ap (λ (τ : Mach). drain τ (cells b)) q in
      let said = z ∙ ap faulted w in
      drain-done p s b (sym h) refl f
      (record {
        answer = (λ i. record { state = e i; rules = k; verdict = said i; address = j i }) ∙ ap settled all;
        holds = ap (λ (d : Drained). d.memory) all;
        formed = g.formed;
      })

-- ---- the rule that is due, by the kind

module _ {n : ℕ} {ts : List Row} {rf : List ℕ} (w : Coded n ts rf) {c : Counter} {σ : Mach} (v : mach c (regs_of rf) (held_of n ts) ≡ σ) {p : ℕ} (h : p < length σ.held) where
  abbrev due-at : Rule
  due-at = due σ.registers (drop (suc p) σ.held) (get_or σ.held p nothing).work

  due_here : {x : Work} → (itb_of (row_at ts p)).work ≡ x → due (regs_of rf) (drop (suc p) (held_of n ts)) x ≡ due-at
  due_here e =
      ap (due (regs_of rf) (drop (suc p) (held_of n ts))) (sym e ∙ ap (λ (y : Itb). y.work) (here w.table (place w v h)))
      ∙ ap (λ (x : Mach). due x.registers (drop (suc p) x.held) (get_or x.held p nothing).work) v

  module _ {k : ℕ} (q : k ≡ kind_at ts p) where
    module _ (e : k ≡ a_value) where
      as_value : due_value (regs_of rf) (drop (suc p) (held_of n ts)) (tag_at ts p) ≡ due-at
      as_value = due_here (work-value ts p (sym q ∙ e))

      pub due_forward : held_behind n p ts ≡ true → Rule.Forward ≡ due-at
      due_forward a = rw (← as_value, ← searched w.table (place w v h), a) refl

      pub due_commit : held_behind n p ts ≡ false → in_register (tag_at ts p) rf ≡ true → Rule.Commit ≡ due-at
      due_commit a g = rw (← as_value, ← searched w.table (place w v h), a, ← searched_registers w.file (tag_at ts p), g) refl

      pub due_retire : held_behind n p ts ≡ false → in_register (tag_at ts p) rf ≡ false → Rule.Retire ≡ due-at
      due_retire a g = rw (← as_value, ← searched w.table (place w v h), a, ← searched_registers w.file (tag_at ts p), g) refl

    pub due_op : k ≡ an_op → Rule.Operate ≡ due-at
    due_op e = due_here (work_op ts p (sym q ∙ e))

    pub due_jz : k ≡ a_jz → due_jump (Rows.first_at ts p) ≡ due-at
    due_jz e = due_here (work_jz ts p (sym q ∙ e))

    pub due-load : k ≡ a_load → Rule.Load ≡ due-at
    due-load e = due_here (work-load ts p (sym q ∙ e))

    pub due-store : k ≢ a_value → k ≢ an_op → k ≢ a_jz → k ≢ a_load → Rule.Store ≡ due-at
    due-store a b d e = due_here (work-store ts p (λ x. a (q ∙ x)) (λ x. b (q ∙ x)) (λ x. d (q ∙ x)) (λ x. e (q ∙ x)))
