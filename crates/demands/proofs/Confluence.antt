-- Whatever the order of the rules other than issue, where none is allowed any more machine and memory are the same.
use Prim.Native.Nat.{ℕ}
use mathlib.Core.Path.{◌≡◌, refl, sym, ap, ap₂, subst, ◌∙◌}
use mathlib.Core.Bool.{Bool, true, false, cond}
use mathlib.Core.List.{List, [], ◌∷◌, ◌++◌, append-nil}
use lib.Dec.{eqb}
use lib.ListN.{length, set}
use lib.Seq.{append_snoc}
use borrow.Author.Tests.{lt-ltb}
use Rattle.records.specs.declared.Refusal.TheVariants.{EarlierMemory, OtherWay}
use Rattle.std.specs.Prelude.{Result, Ok, Err}
use Rattle.records.specs.declared.Refusal.{Refusal}
use Rattle.value.specs.declared.Value.{Value}
use Rattle.value.specs.declared.Value.TheVariants.{Undefined, Word}
use Rattle.value.specs.Operation.{result_of}
use Rattle.isa.specs.declared.InstrAddr.{InstrAddr}
use Rattle.isa.specs.declared.Tag.{Tag}
use Rattle.kernel.specs.Kernel.{next, read_at, write_at, target, branch}
use Rattle.templates.specs.declared.Operand.{Operand}
use Rattle.templates.specs.declared.Operand.TheVariants.{Known, Waits}
use Rattle.templates.specs.declared.Work.{Work}
use Rattle.templates.specs.declared.Work.TheVariants.{Done, Op, Jz, Load, Store}
use Rattle.templates.specs.declared.Register.{Register}
use Rattle.templates.specs.declared.Counter.TheVariants.{At}
use Rattle.templates.specs.Templates.{register, fill_regs}
use Rattle.templates.specs.Machine.{Itb, ITB, any_makes, any_memory, fill_all, Mach, mach}
use Rattle.sound.proofs.Soundness.{Sound, value_made_once, straight}
use Rattle.rules.specs.declared.Rule.{Rule}
use Rattle.rules.specs.Rules.{Step, accepted, refused, holding, tried, known, becomes, go_to, rule, apply}
use Rattle.rules.specs.Drain.{drain}
use Rattle.rules.proofs.Environment.{Env, resolve}
use Rattle.rules.proofs.Cases.{OnStep, Cases, apply_at, apply-cases}
use Rattle.rules.proofs.Keeping.{apply_keeps_sound}
use Rattle.rules.specs.Moves.{Move, move, Refused, Stuck, continued}
use Rattle.demands.proofs.Flush.{nothing}
use Rattle.demands.proofs.Early.{reads}
use Rattle.demands.proofs.Ending.{no_value}
use Rattle.demands.proofs.Turns.{on_each, on_both, on_accepted, in_turn_lem}
use Rattle.demands.proofs.Draining.{drains, drain_stuck}
use Rattle.demands.proofs.Settling.{Stands, Way, itself, put, put_work, put_regs, bound, turned, stored, keep, either, targeted, branched, now, turn, settle, outset, close, settled, settle-append, settle_has, has_bound, settle-fill, put_regs-fill, settle-bound, put_regs_unheld, settle-turned, Still, settle_still, settle-stored}

-- ---- a rule other than issue leaves where the machine settles

-- a branch that is the same whatever the target stands for
module _ (a : InstrAddr) (ia : InstrAddr) (e : Stands) where
  not_taken : (zero : Bool) (t : Tag) → cond zero (target Undefined) (Ok (next a)) ≡ Ok ia → cond zero (targeted (e t)) (Ok (next a)) ≡ Ok ia
  not_taken true t h = absurd (cc)
  not_taken false t h = h

  branched_to : (u : Value) (y : Operand) → ((f : Env) → branch a u (resolve f y) ≡ Ok ia) → branched a (Known u) (put e y) ≡ Ok ia
  branched_to Undefined y b = absurd (cc (b nothing))
  branched_to (Word w) (Known v) b = b nothing
  branched_to (Word w) (Waits t) b = not_taken (eqb w 0) t (b nothing)

module _ (k : ℕ) (σ : Mach) (m : List Value) (pre : List Itb) (a : InstrAddr) (post : List Itb) where
  -- when the front has had its turn; and then the rest
  abbrev front : Way
  front = settle pre (outset σ.counter m)

  abbrev rest : Way → Step
  rest s = close σ.registers (settle post s)

  abbrev Was : Work → Type 0
  Was w = Sound k (holding σ (pre ++ ITB a w ∷ post))

  whole : (w : Work) → settled (holding σ (pre ++ ITB a w ∷ post)) m ≡ rest (turn a w front)
  whole w = ap (close σ.registers) (settle-append pre (ITB a w ∷ post) (outset σ.counter m))

  same : (w : Work) (o : Step) (s : Way) → o ≡ rest s → s ≡ turn a w front → o ≡ settled (holding σ (pre ++ ITB a w ∷ post)) m
  same w o s e f = e ∙ ap rest f ∙ sym (whole w)

  unmade : (t : Tag) (v : Value) → Was (Done t v) → any_makes t post ≡ false
  unmade t v s = value_made_once k pre a t v post s.templates

  still : any_memory pre ≡ false → Still m front
  still h = settle_still m pre (outset σ.counter m) h (record { clear = refl; same = refl })

  -- the rest after a value for t
  abbrev later : Tag → Value → Way
  later t v = settle post (bound t v front)

  settled-cases : Cases σ m pre a post (λ w r. Was w → OnStep (λ σ' m'. settled σ' m' ≡ settled (holding σ (pre ++ ITB a w ∷ post)) m) r)
  settled-cases =
      record {
        refuses = λ w n s. tt;
        operates = λ t n u v s. same (Op t n (Known u) (Known v)) _ _ (whole (Done t (result_of n u v))) refl;
        forwards = λ t v h s.
            ap (close σ.registers) (settle-append pre (ITB a (Done t v) ∷ fill_all t v post) (outset σ.counter m)
            ∙ settle-fill t v post (bound t v front) (unmade t v s) (has_bound t v front))
            ∙ sym (whole (Done t v));
        commits = λ t v h s.
            ap (close (fill_regs t v σ.registers)) (settle-append pre (ITB a (Done t v) ∷ post) (outset σ.counter m))
            ∙ ap (λ (rf : List Register). accepted (mach (later t v).counter rf (later t v).kept) (later t v).memory)
            (put_regs-fill t v (later t v).tags (settle_has t v post (bound t v front) (unmade t v s) (has_bound t v front)) σ.registers)
            ∙ sym (whole (Done t v));
        retires = λ t v f h s.
            ap (close σ.registers) (settle-append pre post (outset σ.counter m))
            ∙ ap (λ (rf : List Register). accepted (mach (settle post front).counter rf (settle post front).kept) (settle post front).memory)
            (sym (put_regs_unheld t v (settle post front).tags σ.registers f))
            ∙ ap (close σ.registers) (sym (settle-bound t v post front h (unmade t v s)))
            ∙ sym (whole (Done t v));
        loads = λ t x v e g s.
            let q = still g.first in
            same (Load t (Known (Word x))) _ _ (whole (Done t v))
            (rw (q.clear, q.same, reads m x v e) refl);
        stores = λ x v l g s.
            let q = still g.first in
            same (Store (Known (Word x)) (Known v)) _ _ (ap (close σ.registers) (settle-append pre post (outset σ.counter (set m x v))))
            (settle-stored (set m x v) pre (outset σ.counter m) g.first ∙ rw (q.clear, q.same, lt-ltb x (length m) l) refl);
        jumps = λ u y ia b s.
            let w = Jz (Known u) y in
            same w _ _ (ap (close σ.registers) (settle-append pre post (outset (At ia) m)))
            (settle-turned ia pre (outset σ.counter m) (straight (ITB a w) post σ.counter pre s.counter)
            ∙ ap (either (λ ia. turned ia front) (keep a (Jz (Known u) (put front.tags y)) front)) (sym (branched_to a ia front.tags u y b)));
      }

apply_keeps_settled : (k : ℕ) (r : Rule) (place : ℕ) (σ : Mach) (m : List Value) → Sound k σ
    → OnStep (λ σ' m'. settled σ' m' ≡ settled σ m) (apply r place σ m)
apply_keeps_settled k r place σ m s =
    apply-cases (λ ts r. Sound k (holding σ ts) → OnStep (λ σ' m'. settled σ' m' ≡ settled (holding σ ts) m) r) r place σ m (λ _. tt) (settled-cases k σ m) s

pub continued_keeps_settled : (k : ℕ) (vs : List Move) (σ : Mach) (m : List Value) → Sound k σ
    → OnStep (λ σ' m'. settled σ' m' ≡ settled σ m) (continued vs σ m)
continued_keeps_settled k =
    in_turn_lem move (Sound k) (λ vs σ m σ' m'. settled σ' m' ≡ settled σ m) (λ σ m s. refl)
    (λ v vs σ m s.
    on_each _ _ (λ τ l h. (h.1, λ σ' m' g. g ∙ h.0)) (move v σ m)
    (on_both _ _ (move v σ m) (apply_keeps_settled k v.rule v.place σ m s) (apply_keeps_sound k v.rule v.place σ m s)))

-- ---- where no rule is allowed, the machine has settled

put-itself : (x : Operand) → put itself x ≡ x
put-itself (Known v) = refl
put-itself (Waits t) = refl

put_work-itself : (w : Work) → put_work itself w ≡ w
put_work-itself (Done t v) = refl
put_work-itself (Op t n x y) = ap₂ (Op t n) (put-itself x) (put-itself y)
put_work-itself (Jz x y) = ap₂ Jz (put-itself x) (put-itself y)
put_work-itself (Load t x) = ap (Load t) (put-itself x)
put_work-itself (Store x y) = ap₂ Store (put-itself x) (put-itself y)

put_regs-itself : (rf : List Register) → put_regs itself rf ≡ rf
put_regs-itself [] = refl
put_regs-itself (r ∷ rf) = ap₂ (λ x y. register x ∷ y) (put-itself r.holds) (put_regs-itself rf)

module _ (σ : Mach) (m : List Value) where
  -- with the templates before kept
  abbrev way : List Itb → Way
  way pre = record { tags = itself; counter = σ.counter; kept = pre; memory = m }

  module _ (pre : List Itb) (a : InstrAddr) (post : List Itb) where
    load_kept : (t : Tag) (o : Way) (earlier : Bool) (r : Result Value Refusal)
        → Refused (cond earlier (refused EarlierMemory) (tried (λ v. becomes σ m pre a post (Done t v)) r))
        → either (λ v. bound t v (way pre)) o (cond earlier (Err EarlierMemory) r) ≡ o
    load_kept t o true r h = refl
    load_kept t o false (Ok v) h = absurd h
    load_kept t o false (Err n) h = refl

    store_kept : (o : Way) (earlier : Bool) (r : Result (List Value) Refusal)
        → Refused (cond earlier (refused EarlierMemory) (tried (λ m'. accepted (holding σ (pre ++ post)) m') r))
        → either (λ m'. stored m' (way pre)) o (cond earlier (Err EarlierMemory) r) ≡ o
    store_kept o true r h = refl
    store_kept o false (Ok m') h = absurd h
    store_kept o false (Err n) h = refl

    jz_kept : (o : Way) (zero : Bool) (y : Operand)
        → Refused (cond zero (known (λ v. tried (go_to σ m pre a post) (target v)) y) (refused OtherWay))
        → Refused (cond zero (refused OtherWay) (go_to σ m pre a post (next a)))
        → either (λ ia. turned ia (way pre)) o (cond zero (targeted y) (Ok (next a))) ≡ o
    jz_kept o true (Known (Word n)) jump no_jump = absurd jump
    jz_kept o true (Known Undefined) jump no_jump = refl
    jz_kept o true (Waits t) jump no_jump = refl
    jz_kept o false y jump no_jump = absurd no_jump

    kept : (w : Work) → ((r : Rule) → Refused (rule r σ m pre a post w)) → now a w (way pre) ≡ keep a w (way pre)
    kept (Done t v) f = absurd (no_value σ m pre a post t v f)
    kept (Op t n (Known u) (Known v)) f = absurd (f Rule.Operate)
    kept (Op t n (Known u) (Waits s)) f = refl
    kept (Op t n (Waits s) y) f = refl
    kept (Jz (Known (Word w)) y) f = jz_kept (keep a (Jz (Known (Word w)) y) (way pre)) (eqb w 0) y (f Rule.Jump) (f Rule.NoJump)
    kept (Jz (Known Undefined) y) f = refl
    kept (Jz (Waits t) y) f = refl
    kept (Load t (Known u)) f = load_kept t (keep a (Load t (Known u)) (way pre)) (any_memory pre) (read_at m u) (f Rule.Load)
    kept (Load t (Waits s)) f = refl
    kept (Store (Known u) (Known v)) f = store_kept (keep a (Store (Known u) (Known v)) (way pre)) (any_memory pre) (write_at m u v) (f Rule.Store)
    kept (Store (Known u) (Waits s)) f = refl
    kept (Store (Waits s) y) f = refl

  all_kept : (pre xs : List Itb) → σ.held ≡ pre ++ xs → Stuck σ m → settle xs (way pre) ≡ way (pre ++ xs)
  all_kept pre [] e f = ap way (sym (append-nil pre))
  all_kept pre (x ∷ xs) e f =
      let here = kept pre x.address xs x.work (λ r. subst Refused (apply_at r σ m pre x xs e) (f (record { rule = r; place = length pre }))) in
      ap (settle xs) (ap (λ (w : Work). now x.address w (way pre)) (put_work-itself x.work) ∙ here)
      ∙ all_kept (pre ++ x ∷ []) xs (e ∙ sym (append_snoc pre x xs)) f
      ∙ ap way (append_snoc pre x xs)

  pub stuck_settled : Stuck σ m → settled σ m ≡ accepted σ m
  stuck_settled f =
      ap (close σ.registers) (all_kept [] σ.held refl f)
      ∙ ap (λ (rf : List Register). accepted (mach σ.counter rf σ.held) m) (put_regs-itself σ.registers)

-- ---- so the end is one

pub confluent : (k : ℕ) (σ : Mach) (m : List Value) → Sound k σ → (vs ws : List Move) (σ₁ σ₂ : Mach) (m₁ m₂ : List Value)
    → continued vs σ m ≡ accepted σ₁ m₁ → Stuck σ₁ m₁ → continued ws σ m ≡ accepted σ₂ m₂ → Stuck σ₂ m₂ → (σ₁ ≡ σ₂) × (m₁ ≡ m₂)
confluent k σ m s vs ws σ₁ σ₂ m₁ m₂ e f g h =
    let one : accepted σ₁ m₁ ≡ accepted σ₂ m₂ =
    sym (stuck_settled σ₁ m₁ f) ∙ on_accepted _ e (continued_keeps_settled k vs σ m s)
    ∙ sym (on_accepted _ g (continued_keeps_settled k ws σ m s)) ∙ stuck_settled σ₂ m₂ h in
    (cc, cc)

-- which is the drain's
pub ends_as_drain : (k : ℕ) (σ : Mach) (m : List Value) → Sound k σ → (vs : List Move) (σ' : Mach) (m' : List Value)
    → continued vs σ m ≡ accepted σ' m' → Stuck σ' m' → (σ' ≡ (drain σ m).machine) × (m' ≡ (drain σ m).memory)
ends_as_drain k σ m s vs σ' m' e f =
    let d = drains σ m s.few in
    confluent k σ m s vs d.0 σ' (drain σ m).machine m' (drain σ m).memory e f d.1.leaves (drain_stuck σ m s.few)
