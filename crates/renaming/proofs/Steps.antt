-- What a rule does to the machine that the working table shows, by what it was judged to do there.
use mathlib.Core.Path.{◌≡◌, refl, sym, ap, ap₂, subst, ◌∙◌}
use Prim.Native.Nat.{ℕ, suc, ◌-◌, ◌≤◌, ◌<◌}
use native.Mathlib.Omega.{arith}
use mathlib.Core.Bool.{Bool, true, false, cond}
use mathlib.Core.List.{List, ◌∷◌, ◌++◌}
use lib.Dec.{eqb}
use lib.ListN.{length, get_or, take, drop}
use lib.Seq.{take-suc, append_snoc, split_at}
use borrow.Author.Tests.{eqb-true, le-ltb}
use Rattle.std.specs.Prelude.{Result, Ok, Err}
use Rattle.records.specs.declared.Refusal.{Refusal}
use Rattle.records.specs.declared.Refusal.TheVariants.{BadLength, NoTemplate, OtherKind}
use Rattle.records.specs.Refusal.{verdict_of}
use Rattle.records.proofs.Basics.{got_not_fails}
use Rattle.value.specs.declared.Value.{Value}
use Rattle.isa.specs.declared.InstrAddr.{InstrAddr}
use Rattle.isa.specs.declared.Tag.{Tag}
use Rattle.cells.specs.Cells.{cells}
use Rattle.kernel.specs.Kernel.{next, write_at, or_kept, Writes}
use Rattle.kernel.proofs.Writing.{write_formed}
use Rattle.templates.specs.declared.Counter.{Counter}
use Rattle.templates.specs.declared.Counter.TheVariants.{At}
use Rattle.templates.specs.declared.Register.{Register}
use Rattle.templates.specs.declared.Work.TheVariants.{Done}
use Rattle.templates.specs.Machine.{Itb, ITB, nothing, fill_all, Mach, mach}
use Rattle.rows.specs.Rows.{Row, a_value, kind_at, row_at, itb_of, tag_at, address_at, value_at, filled_behind, without as without-row}
use Rattle.rows.specs.Shown.{held_of, regs_of}
use Rattle.rows.specs.Answers.{Finishes, Fills}
use Rattle.rows.proofs.Showing.{Shows, shown, tabled, here, held_long, fills, fills_long, leaves, leaves_long, finishes, finishes_long, filled-listed, filled_filed}
use Rattle.rows.proofs.Works.{work-value}
use Rattle.rules.specs.declared.Rule.{Rule}
use Rattle.rules.specs.Rules.{Step, accepted, refused, tried, apply}
use Rattle.rules.specs.Drain.{refusal}
use Rattle.judge.specs.Reading.{of_kind, operating, loading, storing, stored_at, jumping, falling, forwarding, committing, retiring}
use Rattle.judge.proofs.Answering.{operate_reads, load_reads, store_reads, jump_reads, fall_reads, forward_reads, commit_reads, retire_reads, forwarded, committed, gone}
use Rattle.judge.proofs.Asking.{stores_there, stores_not}
use Rattle.renaming.specs.Answers.{memory_of}
use Rattle.renaming.specs.Working.{Coded, Within, after, Does, DoesAlone, Acts, without}

-- ---- refused: all is as it was; accepted: the rule's machine and memory

pub no_step : (f : Mach → List Value → Step) {σ : Mach} {m : List Value} {why : Refusal} → f σ m ≡ refused why → Does f σ m (Err why) σ m
no_step f {σ} {m} e = record { verdict = sym (ap refusal e); machine = sym (ap (after σ) e); memory = sym (ap (memory_of m) e) }

pub a-step : (f : Mach → List Value → Step) {σ : Mach} {m : List Value} {σ' : Mach} {m' : List Value} → f σ m ≡ accepted σ' m' → Does f σ m (Ok tt) σ' m'
a-step f {σ} {m} e = record { verdict = sym (ap refusal e); machine = sym (ap (after σ) e); memory = sym (ap (memory_of m) e) }

-- ---- and back: what a step came to

abbrev why_of : Result (Unit {0}) Refusal → Refusal
why_of (Ok x) = BadLength
why_of (Err n) = n

module _ {f : Mach → List Value → Step} {σ : Mach} {m : List Value} {r : Result (Unit {0}) Refusal} {σ' : Mach} {m' : List Value} (d : Does f σ m r σ' m') where
  pub came_accepted : r ≡ Ok tt → f σ m ≡ accepted σ' m'
  came_accepted z = by (f σ m) d.verdict d.machine d.memory
    where
      by : (s : Step) → r ≡ refusal s → σ' ≡ after σ s → m' ≡ memory_of m s → s ≡ accepted σ' m'
      by (accepted τ l) e q u = ap₂ accepted (sym q) (sym u)
      by (refused k) e q u = got_not_fails (sym e ∙ z)

  pub came_refused : {why : Refusal} → r ≡ Err why → (f σ m ≡ refused why) × (σ' ≡ σ) × (m' ≡ m)
  came_refused {why} z = by (f σ m) d.verdict d.machine d.memory
    where
      by : (s : Step) → r ≡ refusal s → σ' ≡ after σ s → m' ≡ memory_of m s → (s ≡ refused why) × (σ' ≡ σ) × (m' ≡ m)
      by (accepted τ l) e q u = got_not_fails (sym z ∙ e)
      by (refused k) e q u = (ap refused (ap why_of (sym e ∙ z)), q, u)

-- ---- memory written, or not

wrote : (m : List Value) (T : Result (List Value) Refusal) {r : Result (Unit {0}) Refusal} {m' : List Value} → r ≡ verdict_of T → r ≡ Ok tt → m' ≡ or_kept m T → T ≡ Ok m'
wrote m (Ok l) e z q = ap Ok (sym q)
wrote m (Err k) e z q = got_not_fails (sym e ∙ z)

wrote_not : (T : Result (List Value) Refusal) {r : Result (Unit {0}) Refusal} {why : Refusal} → r ≡ verdict_of T → r ≡ Err why → T ≡ Err why
wrote_not (Ok l) e z = got_not_fails (sym z ∙ e)
wrote_not (Err k) e z = ap Err (ap why_of (sym e ∙ z))

-- a value template alone is forwarded or committed
got_kind : {A : Type 0} (k : ℕ) (T : Result A Refusal) {x : A} → of_kind a_value k T ≡ Ok x → k ≡ a_value
got_kind {A} k T {x} e = go (eqb k a_value) refl e
  where
    go : (b : Bool) → eqb k a_value ≡ b → cond b T (Err OtherKind) ≡ Ok x → k ≡ a_value
    go true q e = eqb-true k a_value q
    go false q e = got_not_fails e

-- ---- the rules, at place p of a machine that is shown

module _ {n : ℕ} {ts : List Row} {rf : List ℕ} (w : Coded n ts rf) {c : Counter} {σ : Mach} (v : mach c (regs_of rf) (held_of n ts) ≡ σ) where
  abbrev held : List Itb
  held = held_of n ts

  abbrev rs : List Register
  rs = regs_of rf

  pub counted : length σ.held ≡ n
  counted = sym (ap (λ (x : Mach). length x.held) v) ∙ held_long w.table

  module _ {p : ℕ} where
    -- behind the last template
    pub past : (rule : Rule) (b : List ℕ) → n ≤ p → Acts (apply rule p) σ b (Err NoTemplate) σ b
    unfolding apply
    past rule b h = record { does = no_step (apply rule p) (rw (le-ltb p (length σ.held) (omega (arith, counted))) refl); formed = λ q. q }

    module _ (h : p < length σ.held) where
      pub place : p < n
      place = omega (arith, h, counted)

      -- a rule on what is shown
      as-shown : (rule : Rule) (m : List Value) → apply rule p σ m ≡ apply rule p (mach c rs held) m
      as-shown rule m = sym (ap (λ (x : Mach). apply rule p x m) v)

      abbrev finishing : List Value → Value → Step
      finishing m x = accepted (mach c rs (take p held ++ ITB (address_at ts p) (Done (tag_at ts p) x) ∷ drop (suc p) held)) m

      abbrev going : List Value → InstrAddr → Step
      going m ia = accepted (mach (At ia) rs (take p held ++ drop (suc p) held)) m

      -- ---- the template becomes a value template

      module _ {x : Value} {ts' : List Row} (f : Finishes p x ts ts') where
        pub finished-coded : Coded n ts' rf
        finished-coded = record { table = tabled (finishes w.table place f) (finishes_long w.table place f) w.table.few; file = w.file }

        finished : (m : List Value) → finishing m x ≡ accepted (mach c rs (held_of n ts')) m
        finished m = ap (λ (xs : List Itb). accepted (mach c rs xs) m) (sym (shown (finishes w.table place f)))

        pub operate-done : operating p ts ≡ Ok x → DoesAlone (apply Rule.Operate p) σ (Ok tt) (mach c rs (held_of n ts'))
        operate-done e = λ m. a-step (apply Rule.Operate p) (as-shown Rule.Operate m ∙ operate_reads w.table place c rs m ∙ ap (tried (finishing m)) e ∙ finished m)

        pub load-done : (m : List Value) → loading m p ts ≡ Ok x → Does (apply Rule.Load p) σ m (Ok tt) (mach c rs (held_of n ts')) m
        load-done m e = a-step (apply Rule.Load p) (as-shown Rule.Load m ∙ load_reads w.table place c rs m ∙ ap (tried (finishing m)) e ∙ finished m)

      pub operate-no : {why : Refusal} → operating p ts ≡ Err why → DoesAlone (apply Rule.Operate p) σ (Err why) σ
      operate-no e = λ m. no_step (apply Rule.Operate p) (as-shown Rule.Operate m ∙ operate_reads w.table place c rs m ∙ ap (tried (finishing m)) e)

      pub load-no : (m : List Value) {why : Refusal} → loading m p ts ≡ Err why → Does (apply Rule.Load p) σ m (Err why) σ m
      load-no m e = no_step (apply Rule.Load p) (as-shown Rule.Load m ∙ load_reads w.table place c rs m ∙ ap (tried (finishing m)) e)

      -- ---- a value template is forwarded, or committed

      kind-done : kind_at ts p ≡ a_value → (itb_of (row_at ts p)).work ≡ Done (tag_at ts p) (value_at ts p)
      kind-done e = work-value ts p e

      done-here : kind_at ts p ≡ a_value → get_or held p nothing ≡ ITB (address_at ts p) (Done (tag_at ts p) (value_at ts p))
      done-here e = sym (here w.table place) ∙ ap (ITB (address_at ts p)) (kind-done e)

      inside : p < length held
      inside = omega (arith, held_long w.table, place)

      forwards : (m : List Value) → apply Rule.Forward p σ m ≡ tried (λ _. forwarded w.table place c rs m) (forwarding n p ts)
      forwards m = as-shown Rule.Forward m ∙ forward_reads w.table place c rs m

      pub forward-no : {why : Refusal} → forwarding n p ts ≡ Err why → DoesAlone (apply Rule.Forward p) σ (Err why) σ
      forward-no e = λ m. no_step (apply Rule.Forward p) (forwards m ∙ ap (tried (λ (_ : Unit {0}). forwarded w.table place c rs m)) e)

      module _ {x : Unit {0}} (e : forwarding n p ts ≡ Ok x) where
        forward_kind : kind_at ts p ≡ a_value
        forward_kind = got_kind (kind_at ts p) _ e

        pub forwarded-coded : {ts' : List Row} → ts' ≡ filled_behind n p ts → Coded n ts' rf
        forwarded-coded q =
            let k = kind-done forward_kind in
            subst (λ (z : List Row). Coded n z rf) (sym q)
            (record { table = tabled (fills w.table place k) (fills_long w.table place k) w.table.few; file = w.file })

        pub forward-done : {ts' : List Row} → ts' ≡ filled_behind n p ts → DoesAlone (apply Rule.Forward p) σ (Ok tt) (mach c rs (held_of n ts'))
        forward-done {ts'} q =
            let rest = fill_all (tag_at ts p) (value_at ts p) (drop (suc p) held) in
            let same : held_of n ts' ≡ take p held ++ ITB (address_at ts p) (Done (tag_at ts p) (value_at ts p)) ∷ rest =
            ap (held_of n) q ∙ shown (fills w.table place (kind-done forward_kind)) ∙ ap (λ (xs : List Itb). xs ++ rest) (take-suc held p nothing inside)
            ∙ append_snoc (take p held) (get_or held p nothing) rest ∙ ap (λ (x : Itb). take p held ++ x ∷ rest) (done-here forward_kind) in
            λ m. a-step (apply Rule.Forward p)
            (forwards m ∙ ap (tried (λ (_ : Unit {0}). forwarded w.table place c rs m)) e ∙ ap (λ (xs : List Itb). accepted (mach c rs xs) m) (sym same))

      commits : (m : List Value) → apply Rule.Commit p σ m ≡ tried (λ _. committed w.table place c rs m) (committing p ts rf)
      commits m = as-shown Rule.Commit m ∙ commit_reads w.table place c rs m w.file refl

      pub commit-no : {why : Refusal} → committing p ts rf ≡ Err why → DoesAlone (apply Rule.Commit p) σ (Err why) σ
      commit-no e = λ m. no_step (apply Rule.Commit p) (commits m ∙ ap (tried (λ (_ : Unit {0}). committed w.table place c rs m)) e)

      module _ {t : Tag} (g : t ≡ tag_at ts p) {x : Value} (k : x ≡ value_at ts p) {rf' : List ℕ} (f : Fills t x rf rf') where
        filled : Fills (tag_at ts p) (value_at ts p) rf rf'
        filled = subst (λ (y : Value). Fills (tag_at ts p) y rf rf') k (subst (λ (y : Tag). Fills y x rf rf') g f)

        pub committed-coded : Coded n ts rf'
        committed-coded = record { table = w.table; file = filled_filed w.file filled }

        pub commit-done : {y : Unit {0}} → committing p ts rf ≡ Ok y → DoesAlone (apply Rule.Commit p) σ (Ok tt) (mach c (regs_of rf') held)
        commit-done e =
            let same : held ≡ take p held ++ ITB (address_at ts p) (Done (tag_at ts p) (value_at ts p)) ∷ drop (suc p) held =
            split_at held p nothing inside ∙ ap (λ (x : Itb). take p held ++ x ∷ drop (suc p) held) (done-here (got_kind (kind_at ts p) _ e)) in
            λ m. a-step (apply Rule.Commit p)
            (commits m ∙ ap (tried (λ (_ : Unit {0}). committed w.table place c rs m)) e
            ∙ ap₂ (λ (ys : List Register) (xs : List Itb). accepted (mach c ys xs) m) (sym (filled-listed w.file filled)) (sym same))

      -- ---- the template is removed

      taken : Shows (n - 1) (without-row n p ts) (take p held ++ drop (suc p) held)
      taken = leaves w.table place

      module _ {ts' : List Row} (e : ts' ≡ without-row n p ts) where
        pub removed-coded : Coded (n - 1) ts' rf
        removed-coded =
            subst (λ (z : List Row). Coded (n - 1) z rf) (sym e)
            (record { table = tabled taken (leaves_long w.table place) (omega (arith, w.table.few)); file = w.file })

        pub removed : mach c rs (held_of (n - 1) ts') ≡ without p σ
        removed = ap (λ (xs : List Itb). mach c rs xs) (ap (held_of (n - 1)) e ∙ shown taken) ∙ ap (without p) v

      retires : (m : List Value) → apply Rule.Retire p σ m ≡ tried (λ _. gone w.table place c rs m) (retiring n p ts rf)
      retires m = as-shown Rule.Retire m ∙ retire_reads w.table place c rs m w.file refl

      pub retire-no : {why : Refusal} → retiring n p ts rf ≡ Err why → DoesAlone (apply Rule.Retire p) σ (Err why) σ
      retire-no e = λ m. no_step (apply Rule.Retire p) (retires m ∙ ap (tried (λ (_ : Unit {0}). gone w.table place c rs m)) e)

      pub retire-done : {x : Unit {0}} → retiring n p ts rf ≡ Ok x → {σ' : Mach} → σ' ≡ without p σ → DoesAlone (apply Rule.Retire p) σ (Ok tt) σ'
      retire-done e q =
          λ m. a-step (apply Rule.Retire p)
          (retires m ∙ ap (tried (λ (_ : Unit {0}). gone w.table place c rs m)) e ∙ ap (λ (x : Mach). accepted x m) (ap (without p) v ∙ sym q))

      -- ---- a Store, of memory's bytes

      abbrev storing-there : List Value → Step
      storing-there l = accepted (mach c rs (take p held ++ drop (suc p) held)) l

      stores : (m : List Value) → apply Rule.Store p σ m ≡ tried storing-there (storing m p ts)
      stores m = as-shown Rule.Store m ∙ store_reads w.table place c rs m

      pub store-no : (b : List ℕ) {why : Refusal} → stored_at p ts ≡ Err why → Acts (apply Rule.Store p) σ b (Err why) σ b
      store-no b e = record { does = no_step (apply Rule.Store p) (stores (cells b) ∙ ap (tried storing-there) (stores_not (cells b) p ts e)); formed = λ q. q }

      module _ {x y : Value} (e : stored_at p ts ≡ Ok (x, y)) {b : List ℕ} {r : Result (Unit {0}) Refusal} {b' : List ℕ} (g : Writes b x y r b') where
        pub store-outside : {why : Refusal} → r ≡ Err why → Acts (apply Rule.Store p) σ b (Err why) σ b'
        store-outside {why} z =
            let no = wrote_not (write_at (cells b) x y) g.answer z in
            let same : cells b' ≡ cells b = g.holds ∙ ap (or_kept (cells b)) no in
            record {
              does =
                  subst (λ (l : List Value). Does (apply Rule.Store p) σ (cells b) (Err why) σ l) (sym same)
                  (no_step (apply Rule.Store p) (stores (cells b) ∙ ap (tried storing-there) (stores_there (cells b) p ts e ∙ no)));
              formed = write_formed x g;
            }

        pub store-done : r ≡ Ok tt → {σ' : Mach} → σ' ≡ without p σ → Acts (apply Rule.Store p) σ b (Ok tt) σ' b'
        store-done z q =
            let yes = wrote (cells b) (write_at (cells b) x y) g.answer z g.holds in
            record {
              does =
                  a-step (apply Rule.Store p)
                  (stores (cells b) ∙ ap (tried storing-there) (stores_there (cells b) p ts e ∙ yes) ∙ ap (λ (x : Mach). accepted x (cells b')) (ap (without p) v ∙ sym q));
              formed = write_formed x g;
            }

      -- ---- a Jz, and the counter is set

      pub jump-no : {why : Refusal} → jumping p ts ≡ Err why → DoesAlone (apply Rule.Jump p) σ (Err why) σ
      jump-no e = λ m. no_step (apply Rule.Jump p) (as-shown Rule.Jump m ∙ jump_reads w.table place c rs m ∙ ap (tried (going m)) e)

      pub fall-no : {why : Refusal} → falling p ts ≡ Err why → DoesAlone (apply Rule.NoJump p) σ (Err why) σ
      fall-no e = λ m. no_step (apply Rule.NoJump p) (as-shown Rule.NoJump m ∙ fall_reads w.table place c rs m ∙ ap (tried (λ (_ : Unit {0}). going m (next (address_at ts p)))) e)

      module _ {τ : Mach} (q : τ ≡ without p σ) where
        gone-to : (ia : InstrAddr) (m : List Value) → going m ia ≡ accepted (mach (At ia) τ.registers τ.held) m
        gone-to ia m = ap (λ (x : Mach). accepted (mach (At ia) x.registers x.held) m) (ap (without p) v ∙ sym q)

        pub jump-done : {ia : InstrAddr} → jumping p ts ≡ Ok ia → DoesAlone (apply Rule.Jump p) σ (Ok tt) (mach (At ia) τ.registers τ.held)
        jump-done {ia} e = λ m. a-step (apply Rule.Jump p) (as-shown Rule.Jump m ∙ jump_reads w.table place c rs m ∙ ap (tried (going m)) e ∙ gone-to ia m)

        pub fall-done : {x : Unit {0}} → falling p ts ≡ Ok x → {a : InstrAddr} → a ≡ address_at ts p → DoesAlone (apply Rule.NoJump p) σ (Ok tt) (mach (At (next a)) τ.registers τ.held)
        fall-done e {a} k =
            λ m. a-step (apply Rule.NoJump p)
            (as-shown Rule.NoJump m ∙ fall_reads w.table place c rs m ∙ ap (tried (λ (_ : Unit {0}). going m (next (address_at ts p)))) e
            ∙ ap (λ (x : InstrAddr). going m (next x)) (sym k) ∙ gone-to (next a) m)

      -- a template's address is below 1,024
      pub within_here : Within σ.held → (address_at ts p).0 < 1024
      within_here u =
          let e : (address_at ts p).0 ≡ (get_or held p nothing).address.0 = ap (λ (x : Itb). x.address.0) (here w.table place) in
          let q : (get_or held p nothing).address.0 ≡ (get_or σ.held p nothing).address.0 = ap (λ (x : Mach). (get_or x.held p nothing).address.0) v in
          let near = u p h in
          omega (arith, e, q, near)
