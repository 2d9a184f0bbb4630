-- Demand 2, of the renaming machine: a command is accepted with what the memo's rules give, and refused exactly where they give nothing.
use Prim.Native.Nat.{ℕ, suc, ◌≤◌, ◌<◌}
use native.Mathlib.Omega.{arith}
use mathlib.Core.Path.{◌≡◌, refl, sym, ap, subst, ◌∙◌}
use mathlib.Core.Logic.{◌↔◌}
use mathlib.Core.Bool.{true, false, ◌||◌, true≢false, false≢true, or-true}
use mathlib.Core.List.{List, [], ◌∷◌, ◌++◌, append-nil}
use mathlib.Core.Option.{Option, none, some}
use lib.Dec.{eqb, leb, ltb}
use lib.ListN.{length, get_or, set, take, drop, get_elem?}
use lib.Seq.{split_at, length-take-le}
use borrow.Author.Tests.{eqb-true, eqb-false, ne_eqb, ltb-true, lt-ltb, leb-false, lt-leb}
use Rattle.std.specs.Prelude.{Ok}
use Rattle.records.specs.declared.Refusal.{Refusal}
use Rattle.value.specs.declared.Value.{Value}
use Rattle.value.specs.declared.Value.TheVariants.{Undefined, Word}
use Rattle.isa.specs.declared.InstrAddr.{InstrAddr}
use Rattle.isa.specs.declared.Tag.{Tag}
use Rattle.isa.specs.declared.Instr.{Instr}
use Rattle.isa.specs.Program.{present}
use Rattle.cells.specs.Cells.{inside, load_from}
use Rattle.kernel.specs.Kernel.{instr_addr, next, read_at, write_at, target}
use Rattle.templates.specs.declared.Operand.{Operand}
use Rattle.templates.specs.declared.Operand.TheVariants.{Known, Waits}
use Rattle.templates.specs.declared.Work.{Work}
use Rattle.templates.specs.declared.Work.TheVariants.{Done, Op, Jz, Load, Store}
use Rattle.templates.specs.declared.Register.{Register}
use Rattle.templates.specs.declared.Counter.{Counter}
use Rattle.templates.specs.declared.Counter.TheVariants.{At, Stall}
use Rattle.templates.specs.Templates.{no_tag, any_reg}
use Rattle.templates.specs.Machine.{ITB, Itb, nothing, any_makes, any_holds, any_memory, Mach, room}
use Rattle.sound.specs.Sound.{is_jz, any_jz, ends_in_jz, sound_mach}
use Rattle.sound.proofs.Basics.{by_test, neither}
use Rattle.sound.proofs.Soundness.{CounterOk, not_empty}
use Rattle.sound.proofs.Decides.{new_said, sound_said}
use Rattle.rules.specs.declared.Rule.{Rule}
use Rattle.rules.specs.declared.Command.{Command}
use Rattle.rules.specs.declared.Command.TheVariants.{Malformed, Issue, Apply}
use Rattle.rules.specs.Rules.{Step, accepted, refused, tried, known, go_to, rule, apply, is_fresh, tag_ok, issued, issue_at, issue_from, issue}
use Rattle.rules.specs.Schedule.{obey}
use Rattle.rules.proofs.Cases.{apply_at}
use Rattle.rules.specs.Moves.{Refused}
use Rattle.demands.specs.Memo as Memo
use Rattle.demands.specs.Memo.{Proc, Fetches, Room, Unused, Renames}
use Rattle.demands.proofs.Early.{reads}

-- ---- conditions

fresh : (t : Tag) (itbs : List Itb) → Unused t itbs → is_fresh t itbs ≡ true
fresh t itbs u = (new_said (λ s. any_makes s itbs) t).says (u.from, u.to, u.new)

unused : (t : Tag) (itbs : List Itb) → is_fresh t itbs ≡ true → Unused t itbs
unused t itbs e =
    let h = (new_said (λ s. any_makes s itbs) t).holds e in
    record { from = h.0; to = h.1; new = h.2 }

writes : (m : List Value) (a : ℕ) (v : Value) → a < length m → write_at m (Word a) v ≡ Ok (set m a v)
writes m a v l = rw (lt-ltb a (length m) l) refl

-- ---- from a step of the memo to an accepted command

module _ (prog : List Instr) where
  issue-accepted : (ia : InstrAddr) (rf : List Register) (itbs : List Itb) (m : List Value) (t : Tag) (i : Instr)
      → Fetches prog ia i → Room itbs → tag_ok itbs t i ≡ true
      → issue prog t (Proc (At ia) rf itbs) m ≡ accepted (issued t (Proc (At ia) rf itbs) m ia i) m
  unfolding issue
  issue-accepted ia rf itbs m t i e l g =
      ap (λ (o : Option Instr). tried (issue_at t (Proc (At ia) rf itbs) m ia) (present o)) e ∙ rw (lt-leb room (length itbs) l, g) refl

  pub memo_accepted : {σ σ' : Mach} {m m' : List Value} {c : Command} → Renames prog σ m c σ' m' → obey prog c σ m ≡ accepted σ' m'
  unfolding obey
  memo_accepted (Memo.loadc_issue ia rf itbs m t r v e l u) = issue-accepted ia rf itbs m t (Instr.Loadc r v) e l (fresh t itbs u)
  memo_accepted (Memo.loadpc_issue ia rf itbs m t r e l u) = issue-accepted ia rf itbs m t (Instr.Loadpc r) e l (fresh t itbs u)
  memo_accepted (Memo.op_issue ia rf itbs m t n r r₁ r₂ e l u) = issue-accepted ia rf itbs m t (Instr.Op r n r₁ r₂) e l (fresh t itbs u)
  memo_accepted (Memo.jz_issue ia rf itbs m r₁ r₂ e l) = issue-accepted ia rf itbs m no_tag (Instr.Jz r₁ r₂) e l refl
  memo_accepted (Memo.load-issue ia rf itbs m t r r₁ e l u) = issue-accepted ia rf itbs m t (Instr.Load r r₁) e l (fresh t itbs u)
  memo_accepted (Memo.store-issue ia rf itbs m r₁ r₂ e l) = issue-accepted ia rf itbs m no_tag (Instr.Store r₁ r₂) e l refl
  memo_accepted (Memo.op pc rf pre post m a t n u v) =
      let x = ITB a (Op t n (Known u) (Known v)) in
      apply_at Rule.Operate (Proc pc rf (pre ++ x ∷ post)) m pre x post refl
  memo_accepted (Memo.value-forward pc rf pre post m a t v h) =
      let x = ITB a (Done t v) in
      apply_at Rule.Forward (Proc pc rf (pre ++ x ∷ post)) m pre x post refl ∙ rw h refl
  memo_accepted (Memo.value-commit pc rf pre post m a t v h) =
      let x = ITB a (Done t v) in
      apply_at Rule.Commit (Proc pc rf (pre ++ x ∷ post)) m pre x post refl ∙ rw h refl
  memo_accepted (Memo.tag-retire pc rf pre post m a t v f h) =
      let x = ITB a (Done t v) in
      apply_at Rule.Retire (Proc pc rf (pre ++ x ∷ post)) m pre x post refl ∙ rw (f, h) refl
  memo_accepted (Memo.jz_jump rf pre m a nia) =
      let x = ITB a (Jz (Known (Word 0)) (Known (Word nia))) in
      apply_at Rule.Jump (Proc Stall rf (pre ++ x ∷ [])) m pre x [] refl
      ∙ ap (λ (l : List Itb). accepted (Proc (At (instr_addr nia)) rf l) m) (append-nil pre)
  memo_accepted (Memo.jz_no_jump rf pre m a v y h) =
      let x = ITB a (Jz (Known (Word v)) y) in
      apply_at Rule.NoJump (Proc Stall rf (pre ++ x ∷ [])) m pre x [] refl
      ∙ rw (ne_eqb v 0 h) refl
      ∙ ap (λ (l : List Itb). accepted (Proc (At (next a)) rf l) m) (append-nil pre)
  memo_accepted (Memo.load pc rf pre post m a t w v h e) =
      let x = ITB a (Load t (Known (Word w))) in
      apply_at Rule.Load (Proc pc rf (pre ++ x ∷ post)) m pre x post refl ∙ rw (h, reads m w v e) refl
  memo_accepted (Memo.store pc rf pre post m a w v h l) =
      let x = ITB a (Store (Known (Word w)) (Known v)) in
      apply_at Rule.Store (Proc pc rf (pre ++ x ∷ post)) m pre x post refl ∙ rw (h, writes m w v l) refl

-- ---- a Jz stands last, and the counter is stalled

some_jz : (pre : List Itb) (a : InstrAddr) (x y : Operand) (post : List Itb) → any_jz (pre ++ ITB a (Jz x y) ∷ post) ≡ true
some_jz [] a x y post = refl
some_jz (z ∷ pre) a x y post = rw (some_jz pre a x y post) (or-true (is_jz z.work))

ends_there : (pre : List Itb) (a : InstrAddr) (x y : Operand) (z : Itb) (post : List Itb)
    → ends_in_jz (pre ++ ITB a (Jz x y) ∷ z ∷ post) ≡ false
ends_there [] a x y z post = refl
ends_there (w ∷ pre) a x y z post =
    by_test (λ b. b ≡ false) (is_jz w.work) (λ _. not_empty pre (ITB a (Jz x y)) (z ∷ post)) (λ _. ends_there pre a x y z post)

-- ---- from an accepted command to a step of the memo

module _ (prog : List Instr) where
  -- if it is accepted, the memo has the step
  abbrev Told : Mach → List Value → Command → Step → Type 0
  Told σ m c (accepted σ' m') = Renames prog σ m c σ' m'
  Told σ m c (refused n) = Unit

  -- ---- issue

  module _ (rf : List Register) (itbs : List Itb) (m : List Value) (t : Tag) where
    no_tag_lem : eqb t.0 0 ≡ true → no_tag ≡ t
    no_tag_lem e = sym (λ i. record { 0 = eqb-true t.0 0 e i })

    issued-told : (ia : InstrAddr) (i : Instr) → Fetches prog ia i → Room itbs → tag_ok itbs t i ≡ true
        → Renames prog (Proc (At ia) rf itbs) m (Issue t) (issued t (Proc (At ia) rf itbs) m ia i) m
    issued-told ia (Instr.Loadc r k) e l g = Memo.loadc_issue ia rf itbs m t r k e l (unused t itbs g)
    issued-told ia (Instr.Loadpc r) e l g = Memo.loadpc_issue ia rf itbs m t r e l (unused t itbs g)
    issued-told ia (Instr.Op r n r₁ r₂) e l g = Memo.op_issue ia rf itbs m t n r r₁ r₂ e l (unused t itbs g)
    issued-told ia (Instr.Jz r₁ r₂) e l g =
        subst (λ (s : Tag). Renames prog (Proc (At ia) rf itbs) m (Issue s) (issued t (Proc (At ia) rf itbs) m ia (Instr.Jz r₁ r₂)) m) (no_tag_lem g)
        (Memo.jz_issue ia rf itbs m r₁ r₂ e l)
    issued-told ia (Instr.Load r r₁) e l g = Memo.load-issue ia rf itbs m t r r₁ e l (unused t itbs g)
    issued-told ia (Instr.Store r₁ r₂) e l g =
        subst (λ (s : Tag). Renames prog (Proc (At ia) rf itbs) m (Issue s) (issued t (Proc (At ia) rf itbs) m ia (Instr.Store r₁ r₂)) m) (no_tag_lem g)
        (Memo.store-issue ia rf itbs m r₁ r₂ e l)

    fetched-told : (ia : InstrAddr) (o : Option Instr) → get_elem? prog ia.0 ≡ o
        → Told (Proc (At ia) rf itbs) m (Issue t) (tried (issue_at t (Proc (At ia) rf itbs) m ia) (present o))
    fetched-told ia none e = tt
    fetched-told ia (some i) e =
        by_test (Told (Proc (At ia) rf itbs) m (Issue t)) (leb room (length itbs)) (λ _. tt)
        (λ l. by_test (Told (Proc (At ia) rf itbs) m (Issue t)) (tag_ok itbs t i) (issued-told ia i e (leb-false room (length itbs) l)) (λ _. tt))

    issue-told : (pc : Counter) → Told (Proc pc rf itbs) m (Issue t) (issue_from t (Proc pc rf itbs) m prog pc)
    issue-told (At ia) = fetched-told ia (get_elem? prog ia.0) refl
    issue-told Stall = tt

  -- ---- the other rules, at the template of address a

  module _ (rf : List Register) (m : List Value) (pre : List Itb) (a : InstrAddr) where
    abbrev with-work : Counter → List Itb → Work → Mach
    with-work pc post w = Proc pc rf (pre ++ ITB a w ∷ post)

    abbrev ToldBy : Rule → Counter → List Itb → Work → Step → Type 0
    ToldBy r pc post w = Told (with-work pc post w) m (Apply r (length pre))

    -- the rule at that template, with work w
    abbrev Here : Rule → Counter → List Itb → Work → Type 0
    Here r pc post w = ToldBy r pc post w (rule r (with-work pc post w) m pre a post w)

    module _ (pc : Counter) (post : List Itb) where
      operate-told : (w : Work) → Here Rule.Operate pc post w
      operate-told (Done t v) = tt
      operate-told (Op t n (Known u) (Known v)) = Memo.op pc rf pre post m a t n u v
      operate-told (Op t n (Known u) (Waits s)) = tt
      operate-told (Op t n (Waits s) y) = tt
      operate-told (Jz x y) = tt
      operate-told (Load t x) = tt
      operate-told (Store x y) = tt

      forward-told : (w : Work) → Here Rule.Forward pc post w
      forward-told (Done t v) =
          by_test (ToldBy Rule.Forward pc post (Done t v)) (any_holds t post) (Memo.value-forward pc rf pre post m a t v) (λ _. tt)
      forward-told (Op t n x y) = tt
      forward-told (Jz x y) = tt
      forward-told (Load t x) = tt
      forward-told (Store x y) = tt

      commit-told : (w : Work) → Here Rule.Commit pc post w
      commit-told (Done t v) = by_test (ToldBy Rule.Commit pc post (Done t v)) (any_reg t rf) (Memo.value-commit pc rf pre post m a t v) (λ _. tt)
      commit-told (Op t n x y) = tt
      commit-told (Jz x y) = tt
      commit-told (Load t x) = tt
      commit-told (Store x y) = tt

      retire-told : (w : Work) → Here Rule.Retire pc post w
      retire-told (Done t v) =
          by_test (ToldBy Rule.Retire pc post (Done t v)) (any_reg t rf || any_holds t post) (λ _. tt)
          (λ h. let n = neither (any_reg t rf) (any_holds t post) h in Memo.tag-retire pc rf pre post m a t v n.0 n.1)
      retire-told (Op t n x y) = tt
      retire-told (Jz x y) = tt
      retire-told (Load t x) = tt
      retire-told (Store x y) = tt

      loaded-told : (t : Tag) (x : Value) → any_memory pre ≡ false
          → ToldBy Rule.Load pc post (Load t (Known x)) (tried (λ v. accepted (with-work pc post (Done t v)) m) (read_at m x))
      unfolding load_from
      loaded-told t Undefined h = tt
      loaded-told t (Word w) h = there (get_elem? m w) refl
        where
          there : (o : Option Value) → get_elem? m w ≡ o
              → ToldBy Rule.Load pc post (Load t (Known (Word w))) (tried (λ v. accepted (with-work pc post (Done t v)) m) (inside o))
          there none e = tt
          there (some v) e = Memo.load pc rf pre post m a t w v h e

      load_told : (w : Work) → Here Rule.Load pc post w
      load_told (Done t v) = tt
      load_told (Op t n x y) = tt
      load_told (Jz x y) = tt
      load_told (Load t (Known x)) = by_test (ToldBy Rule.Load pc post (Load t (Known x))) (any_memory pre) (λ _. tt) (loaded-told t x)
      load_told (Load t (Waits s)) = by_test (ToldBy Rule.Load pc post (Load t (Waits s))) (any_memory pre) (λ _. tt) (λ _. tt)
      load_told (Store x y) = tt

      stored-told : (x v : Value) → any_memory pre ≡ false
          → ToldBy Rule.Store pc post (Store (Known x) (Known v)) (tried (λ m'. accepted (Proc pc rf (pre ++ post)) m') (write_at m x v))
      stored-told Undefined v h = tt
      stored-told (Word w) v h =
          by_test (λ r. ToldBy Rule.Store pc post (Store (Known (Word w)) (Known v)) (tried (λ m'. accepted (Proc pc rf (pre ++ post)) m') r))
          (ltb w (length m)) (λ l. Memo.store pc rf pre post m a w v h (ltb-true w (length m) l)) (λ _. tt)

      store_told : (w : Work) → Here Rule.Store pc post w
      store_told (Done t v) = tt
      store_told (Op t n x y) = tt
      store_told (Jz x y) = tt
      store_told (Load t x) = tt
      store_told (Store (Known x) (Known v)) =
          by_test (ToldBy Rule.Store pc post (Store (Known x) (Known v))) (any_memory pre) (λ _. tt) (stored-told x v)
      store_told (Store (Known x) (Waits s)) = by_test (ToldBy Rule.Store pc post (Store (Known x) (Waits s))) (any_memory pre) (λ _. tt) (λ _. tt)
      store_told (Store (Waits s) y) = by_test (ToldBy Rule.Store pc post (Store (Waits s) y)) (any_memory pre) (λ _. tt) (λ _. tt)

    -- ---- a Jz: the memo has it last, with the counter stalled

    taken-told : (w : ℕ) (y : Operand) → eqb w 0 ≡ true
        → ToldBy Rule.Jump Stall [] (Jz (Known (Word w)) y)
        (known (λ v. tried (go_to (with-work Stall [] (Jz (Known (Word w)) y)) m pre a []) (target v)) y)
    taken-told w (Known Undefined) z = tt
    taken-told w (Known (Word nia)) z =
        subst
        (λ (k : ℕ). Renames prog (with-work Stall [] (Jz (Known (Word k)) (Known (Word nia)))) m (Apply Rule.Jump (length pre)) (Proc (At (instr_addr nia)) rf (pre ++ [])) m)
        (sym (eqb-true w 0 z))
        (subst
        (λ (l : List Itb). Renames prog (with-work Stall [] (Jz (Known (Word 0)) (Known (Word nia)))) m (Apply Rule.Jump (length pre)) (Proc (At (instr_addr nia)) rf l) m)
        (sym (append-nil pre)) (Memo.jz_jump rf pre m a nia))
    taken-told w (Waits s) z = tt

    jump_last : (x y : Operand) → Here Rule.Jump Stall [] (Jz x y)
    jump_last (Known Undefined) y = tt
    jump_last (Known (Word w)) y = by_test (ToldBy Rule.Jump Stall [] (Jz (Known (Word w)) y)) (eqb w 0) (taken-told w y) (λ _. tt)
    jump_last (Waits s) y = tt

    no_jump_last : (x y : Operand) → Here Rule.NoJump Stall [] (Jz x y)
    no_jump_last (Known Undefined) y = tt
    no_jump_last (Known (Word w)) y =
        by_test (ToldBy Rule.NoJump Stall [] (Jz (Known (Word w)) y)) (eqb w 0) (λ _. tt)
        (λ z.
        subst
        (λ (l : List Itb). Renames prog (with-work Stall [] (Jz (Known (Word w)) y)) m (Apply Rule.NoJump (length pre)) (Proc (At (next a)) rf l) m)
        (sym (append-nil pre)) (Memo.jz_no_jump rf pre m a w y (eqb-false w 0 z)))
    no_jump_last (Waits s) y = tt

    at_the_end : (r : Rule) (x y : Operand) → Here r Stall [] (Jz x y) → (pc : Counter) (post : List Itb)
        → CounterOk pc (pre ++ ITB a (Jz x y) ∷ post) → Here r pc post (Jz x y)
    at_the_end r x y h (At ia) post ok = absurd (true≢false (sym (some_jz pre a x y post) ∙ ok))
    at_the_end r x y h Stall [] ok = h
    at_the_end r x y h Stall (z ∷ post) ok = absurd (false≢true (sym (ends_there pre a x y z post) ∙ ok))

    module _ (pc : Counter) (post : List Itb) where
      jump-told : (w : Work) → CounterOk pc (pre ++ ITB a w ∷ post) → Here Rule.Jump pc post w
      jump-told (Done t v) ok = tt
      jump-told (Op t n x y) ok = tt
      jump-told (Jz x y) ok = at_the_end Rule.Jump x y (jump_last x y) pc post ok
      jump-told (Load t x) ok = tt
      jump-told (Store x y) ok = tt

      no_jump-told : (w : Work) → CounterOk pc (pre ++ ITB a w ∷ post) → Here Rule.NoJump pc post w
      no_jump-told (Done t v) ok = tt
      no_jump-told (Op t n x y) ok = tt
      no_jump-told (Jz x y) ok = at_the_end Rule.NoJump x y (no_jump_last x y) pc post ok
      no_jump-told (Load t x) ok = tt
      no_jump-told (Store x y) ok = tt

      rule_told : (r : Rule) (w : Work) → CounterOk pc (pre ++ ITB a w ∷ post) → Here r pc post w
      rule_told Rule.Operate w ok = operate-told pc post w
      rule_told Rule.Forward w ok = forward-told pc post w
      rule_told Rule.Commit w ok = commit-told pc post w
      rule_told Rule.Retire w ok = retire-told pc post w
      rule_told Rule.Load w ok = load_told pc post w
      rule_told Rule.Store w ok = store_told pc post w
      rule_told Rule.Jump w ok = jump-told w ok
      rule_told Rule.NoJump w ok = no_jump-told w ok

  -- ---- at a place

  module _ (σ : Mach) (m : List Value) (ok : CounterOk σ.counter σ.held) where
    there-told : (r : Rule) (pre : List Itb) (x : Itb) (post : List Itb) → σ.held ≡ pre ++ x ∷ post
        → Told σ m (Apply r (length pre)) (rule r σ m pre x.address post x.work)
    there-told r pre x post e =
        subst
        (λ (ts : List Itb).
        Told (Proc σ.counter σ.registers ts) m (Apply r (length pre))
        (rule r (Proc σ.counter σ.registers ts) m pre x.address post x.work))
        (sym e)
        (rule_told σ.registers m pre x.address σ.counter post r x.work (subst (CounterOk σ.counter) e ok))

    apply-told : (r : Rule) (place : ℕ) → Told σ m (Apply r place) (apply r place σ m)
    unfolding apply
    apply-told r place =
        let ts = σ.held in
        let x = get_or ts place nothing in
        let pre = take place ts in
        let post = drop (suc place) ts in
        by_test (Told σ m (Apply r place)) (ltb place (length ts))
        (λ h.
        let l = ltb-true place (length ts) h in
        let k : place ≤ length ts = omega (arith, l) in
        subst (λ (n : ℕ). Told σ m (Apply r n) (rule r σ m pre x.address post x.work)) (length-take-le place ts k)
        (there-told r pre x post (split_at ts place nothing l)))
        (λ _. tt)

    obey-told : (c : Command) → Told σ m c (obey prog c σ m)
    unfolding obey issue
    obey-told Malformed = tt
    obey-told (Issue t) = issue-told σ.registers σ.held m t σ.counter
    obey-told (Apply r place) = apply-told r place

-- ---- demand 2, on sound machines: others are refused before any rule is sought

module _ (prog : List Instr) (k : ℕ) (σ : Mach) (sound : sound_mach k σ ≡ true) (m : List Value) (c : Command) where
  -- accepted with what the memo's rules give
  pub accepted_exactly : (σ' : Mach) (m' : List Value) → (obey prog c σ m ≡ accepted σ' m') ↔ Renames prog σ m c σ' m'
  accepted_exactly σ' m' =
      (λ e. subst (Told prog σ m c) e (obey-told prog σ m ((sound_said k σ).holds sound).counter c), memo_accepted prog)

  -- refused where they give nothing
  pub refused_exactly : ((n : Refusal) × (obey prog c σ m ≡ refused n)) ↔ ((σ' : Mach) (m' : List Value) → Renames prog σ m c σ' m' → ⊥)
  refused_exactly = (λ no σ' m' r. subst Refused (sym no.1 ∙ memo_accepted prog r) tt, none-refused (obey prog c σ m) refl)
    where
      none-refused : (s : Step) → obey prog c σ m ≡ s → ((σ' : Mach) (m' : List Value) → Renames prog σ m c σ' m' → ⊥)
          → (n : Refusal) × (obey prog c σ m ≡ refused n)
      none-refused (accepted σ' m') e never = absurd (never σ' m' ((accepted_exactly σ' m').0 e))
      none-refused (refused n) e never = (n, e)
