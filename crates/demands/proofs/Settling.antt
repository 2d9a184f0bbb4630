-- Each template in turn, the oldest first, is executed if it can be and kept if it can't: where a machine settles.
use Prim.Native.Nat.{ℕ}
use mathlib.Core.Path.{◌≡◌, refl, sym, ap, ap₂, ◌∙◌}
use mathlib.Core.Bool.{false, cond, ◌||◌, or_assoc, true≢false}
use mathlib.Core.List.{List, [], ◌∷◌, ◌++◌, map}
use lib.Dec.{eqb}
use Rattle.records.specs.declared.Refusal.TheVariants.{NeedsTag, EarlierMemory, IsUndefined}
use Rattle.std.specs.Prelude.{Result, Ok, Err}
use Rattle.records.specs.declared.Refusal.{Refusal}
use Rattle.value.specs.declared.Value.{Value}
use Rattle.value.specs.declared.Value.TheVariants.{Undefined, Word}
use Rattle.value.specs.Operation.{result_of}
use Rattle.isa.specs.declared.InstrAddr.{InstrAddr}
use Rattle.isa.specs.declared.Tag.{Tag}
use Rattle.kernel.specs.Kernel.{next, read_at, write_at, target}
use Rattle.templates.specs.declared.Operand.{Operand}
use Rattle.templates.specs.declared.Operand.TheVariants.{Known, Waits}
use Rattle.templates.specs.declared.Work.{Work}
use Rattle.templates.specs.declared.Work.TheVariants.{Done, Op, Jz, Load, Store}
use Rattle.templates.specs.declared.Register.{Register}
use Rattle.templates.specs.declared.Counter.{Counter}
use Rattle.templates.specs.declared.Counter.TheVariants.{At}
use Rattle.templates.specs.Templates.{same_tag, register, makes, waits, holds, is_memory, fill, fill_work, fill_regs, any_reg}
use Rattle.templates.specs.Machine.{Itb, ITB, fill_all, any_makes, any_holds, any_memory, Mach, mach}
use Rattle.sound.specs.Sound.{is_jz, any_jz}
use Rattle.sound.proofs.Basics.{by_test, neither, same_tag_lem}
use Rattle.rules.specs.Rules.{Step, accepted}
use Rattle.demands.proofs.Binding.{bind, bind-itself, bind_other, bind_swap}

-- ---- what each tag stands for: a value, or itself

abbrev pub Stands : Type 0
Stands = Tag → Operand

abbrev pub itself : Stands
itself t = Waits t

abbrev pub put : Stands → Operand → Operand
put e (Known v) = Known v
put e (Waits t) = e t

abbrev pub put_work : Stands → Work → Work
put_work e (Done t v) = Done t v
put_work e (Op t n x y) = Op t n (put e x) (put e y)
put_work e (Jz x y) = Jz (put e x) (put e y)
put_work e (Load t x) = Load t (put e x)
put_work e (Store x y) = Store (put e x) (put e y)

abbrev pub put_regs : Stands → List Register → List Register
put_regs e rf = map (λ r. register (put e r.holds)) rf

-- ---- one template

-- on the way: what the tags stand for, the counter, the templates that are kept, and memory
pub record Way : Type 0 where
  pub tags : Stands
  pub counter : Counter
  pub kept : List Itb
  pub memory : List Value

abbrev pub bound : Tag → Value → Way → Way
bound t v s = record { tags = bind t (Known v) s.tags; counter = s.counter; kept = s.kept; memory = s.memory }

abbrev pub turned : InstrAddr → Way → Way
turned ia s = record { tags = s.tags; counter = At ia; kept = s.kept; memory = s.memory }

abbrev pub stored : List Value → Way → Way
stored m s = record { tags = s.tags; counter = s.counter; kept = s.kept; memory = m }

abbrev pub keep : InstrAddr → Work → Way → Way
keep a w s = record { tags = s.tags; counter = s.counter; kept = s.kept ++ ITB a w ∷ []; memory = s.memory }

abbrev pub either : {A : Type 0} → (A → Way) → Way → Result A Refusal → Way
either f other (Ok x) = f x
either f other (Err n) = other

abbrev pub operated : ℕ → Operand → Operand → Result Value Refusal
operated n (Known u) (Known v) = Ok (result_of n u v)
operated n (Known u) (Waits t) = Err NeedsTag
operated n (Waits t) y = Err NeedsTag

abbrev pub targeted : Operand → Result InstrAddr Refusal
targeted (Known v) = target v
targeted (Waits t) = Err NeedsTag

abbrev pub branched : InstrAddr → Operand → Operand → Result InstrAddr Refusal
branched a (Known (Word w)) y = cond (eqb w 0) (targeted y) (Ok (next a))
branched a (Known Undefined) y = Err IsUndefined
branched a (Waits t) y = Err NeedsTag

abbrev pub loaded : List Itb → List Value → Operand → Result Value Refusal
loaded ts m (Known u) = cond (any_memory ts) (Err EarlierMemory) (read_at m u)
loaded ts m (Waits t) = Err NeedsTag

abbrev pub written : List Itb → List Value → Operand → Operand → Result (List Value) Refusal
written ts m (Known u) (Known v) = cond (any_memory ts) (Err EarlierMemory) (write_at m u v)
written ts m (Known u) (Waits t) = Err NeedsTag
written ts m (Waits t) y = Err NeedsTag

-- with its operands put in
abbrev pub now : InstrAddr → Work → Way → Way
now a (Done t v) s = bound t v s
now a (Op t n x y) s = either (λ v. bound t v s) (keep a (Op t n x y) s) (operated n x y)
now a (Jz x y) s = either (λ ia. turned ia s) (keep a (Jz x y) s) (branched a x y)
now a (Load t x) s = either (λ v. bound t v s) (keep a (Load t x) s) (loaded s.kept s.memory x)
now a (Store x y) s = either (λ m. stored m s) (keep a (Store x y) s) (written s.kept s.memory x y)

abbrev pub turn : InstrAddr → Work → Way → Way
turn a w s = now a (put_work s.tags w) s

-- ---- all of them

abbrev pub settle : List Itb → Way → Way
settle [] s = s
settle (x ∷ xs) s = settle xs (turn x.address x.work s)

abbrev pub outset : Counter → List Value → Way
outset c m = record { tags = itself; counter = c; kept = []; memory = m }

abbrev pub close : List Register → Way → Step
close rf s = accepted (mach s.counter (put_regs s.tags rf) s.kept) s.memory

abbrev pub settled : Mach → List Value → Step
settled σ m = close σ.registers (settle σ.held (outset σ.counter m))

pub settle-append : (xs ys : List Itb) (s : Way) → settle (xs ++ ys) s ≡ settle ys (settle xs s)
settle-append [] ys s = refl
settle-append (x ∷ xs) ys s = settle-append xs ys (turn x.address x.work s)

either_on : {A : Type 0} (g : Way → Way) (f f' : A → Way) (o o' : Way) → ((x : A) → f' x ≡ g (f x)) → o' ≡ g o → (r : Result A Refusal) → either f' o' r ≡ g (either f o r)
either_on g f f' o o' h k (Ok x) = h x
either_on g f f' o o' h k (Err n) = k

makes-put : (e : Stands) (w : Work) → makes (put_work e w) ≡ makes w
makes-put e (Done t v) = refl
makes-put e (Op t n x y) = refl
makes-put e (Jz x y) = refl
makes-put e (Load t x) = refl
makes-put e (Store x y) = refl

jz_put : (e : Stands) (w : Work) → is_jz (put_work e w) ≡ is_jz w
jz_put e (Done t v) = refl
jz_put e (Op t n x y) = refl
jz_put e (Jz x y) = refl
jz_put e (Load t x) = refl
jz_put e (Store x y) = refl

memory-put : (e : Stands) (w : Work) → is_memory (put_work e w) ≡ is_memory w
memory-put e (Done t v) = refl
memory-put e (Op t n x y) = refl
memory-put e (Jz x y) = refl
memory-put e (Load t x) = refl
memory-put e (Store x y) = refl

-- ---- a tag that is filled in with its value

module _ (t : Tag) (v : Value) where
  abbrev pub Has : Way → Type 0
  Has s = s.tags t ≡ Known v

  has_either : {A : Type 0} (f : A → Way) (o : Way) → ((x : A) → Has (f x)) → Has o → (r : Result A Refusal) → Has (either f o r)
  has_either f o h k (Ok x) = h x
  has_either f o h k (Err n) = k

  now_has : (a : InstrAddr) (w : Work) (s : Way) → same_tag (makes w) t ≡ false → Has s → Has (now a w s)
  now_has a (Done r u) s d h = bind_other t (Known v) s.tags r (Known u) h d
  now_has a (Op r n x y) s d h =
      has_either (λ u. bound r u s) (keep a (Op r n x y) s) (λ u. bind_other t (Known v) s.tags r (Known u) h d) h (operated n x y)
  now_has a (Jz x y) s d h = has_either (λ ia. turned ia s) (keep a (Jz x y) s) (λ _. h) h (branched a x y)
  now_has a (Load r x) s d h =
      has_either (λ u. bound r u s) (keep a (Load r x) s) (λ u. bind_other t (Known v) s.tags r (Known u) h d) h
      (loaded s.kept s.memory x)
  now_has a (Store x y) s d h = has_either (λ m. stored m s) (keep a (Store x y) s) (λ _. h) h (written s.kept s.memory x y)

  turn_has : (a : InstrAddr) (w : Work) (s : Way) → same_tag (makes w) t ≡ false → Has s → Has (turn a w s)
  turn_has a w s d h = now_has a (put_work s.tags w) s (ap (λ (r : Tag). same_tag r t) (makes-put s.tags w) ∙ d) h

  pub settle_has : (xs : List Itb) (s : Way) → any_makes t xs ≡ false → Has s → Has (settle xs s)
  settle_has [] s d h = h
  settle_has (x ∷ xs) s d h =
      let n = neither (same_tag (makes x.work) t) (any_makes t xs) d in
      settle_has xs (turn x.address x.work s) n.1 (turn_has x.address x.work s n.0 h)

  pub has_bound : (s : Way) → Has (bound t v s)
  has_bound s = bind-itself t (Known v) s.tags

  put_fill : (e : Stands) → e t ≡ Known v → (x : Operand) → put e (fill t v x) ≡ put e x
  put_fill e h (Known u) = refl
  put_fill e h (Waits s) = by_test (λ x. put e x ≡ e s) (same_tag s t) (λ q. sym h ∙ ap e (sym (same_tag_lem s t q))) (λ _. refl)

  put_work-fill : (e : Stands) → e t ≡ Known v → (w : Work) → put_work e (fill_work t v w) ≡ put_work e w
  put_work-fill e h (Done s u) = refl
  put_work-fill e h (Op s n x y) = ap₂ (Op s n) (put_fill e h x) (put_fill e h y)
  put_work-fill e h (Jz x y) = ap₂ Jz (put_fill e h x) (put_fill e h y)
  put_work-fill e h (Load s x) = ap (Load s) (put_fill e h x)
  put_work-fill e h (Store x y) = ap₂ Store (put_fill e h x) (put_fill e h y)

  pub settle-fill : (xs : List Itb) (s : Way) → any_makes t xs ≡ false → Has s → settle (fill_all t v xs) s ≡ settle xs s
  settle-fill [] s d h = refl
  settle-fill (x ∷ xs) s d h =
      let n = neither (same_tag (makes x.work) t) (any_makes t xs) d in
      ap (λ (w : Work). settle (fill_all t v xs) (now x.address w s)) (put_work-fill s.tags h x.work)
      ∙ settle-fill xs (turn x.address x.work s) n.1 (turn_has x.address x.work s n.0 h)

  pub put_regs-fill : (e : Stands) → e t ≡ Known v → (rf : List Register) → put_regs e (fill_regs t v rf) ≡ put_regs e rf
  put_regs-fill e h [] = refl
  put_regs-fill e h (r ∷ rf) = ap₂ (λ x y. register x ∷ y) (put_fill e h r.holds) (put_regs-fill e h rf)

  -- ---- a tag that nothing holds

  bound_swap : (r : Tag) (u : Value) (s : Way) → same_tag r t ≡ false → bound r u (bound t v s) ≡ bound t v (bound r u s)
  bound_swap r u s d = λ i. record { tags = bind_swap t (Known v) s.tags r (Known u) d i; counter = s.counter; kept = s.kept; memory = s.memory }

  now-bound : (a : InstrAddr) (w : Work) (s : Way) → same_tag (makes w) t ≡ false → now a w (bound t v s) ≡ bound t v (now a w s)
  now-bound a (Done r u) s d = bound_swap r u s d
  now-bound a (Op r n x y) s d = either_on (bound t v) (λ u. bound r u s) _ _ _ (λ u. bound_swap r u s d) refl (operated n x y)
  now-bound a (Jz x y) s d = either_on (bound t v) (λ ia. turned ia s) _ _ _ (λ _. refl) refl (branched a x y)
  now-bound a (Load r x) s d = either_on (bound t v) (λ u. bound r u s) _ _ _ (λ u. bound_swap r u s d) refl (loaded s.kept s.memory x)
  now-bound a (Store x y) s d = either_on (bound t v) (λ m. stored m s) _ _ _ (λ _. refl) refl (written s.kept s.memory x y)

  put_unheld : (e : Stands) (x : Operand) → waits t x ≡ false → put (bind t (Known v) e) x ≡ put e x
  put_unheld e (Known u) h = refl
  put_unheld e (Waits s) h = rw h

  put_work_unheld : (e : Stands) (w : Work) → holds t w ≡ false → put_work (bind t (Known v) e) w ≡ put_work e w
  put_work_unheld e (Done s u) h = refl
  put_work_unheld e (Op s n x y) h = let i = neither (waits t x) (waits t y) h in ap₂ (Op s n) (put_unheld e x i.0) (put_unheld e y i.1)
  put_work_unheld e (Jz x y) h = let i = neither (waits t x) (waits t y) h in ap₂ Jz (put_unheld e x i.0) (put_unheld e y i.1)
  put_work_unheld e (Load s x) h = ap (Load s) (put_unheld e x h)
  put_work_unheld e (Store x y) h = let i = neither (waits t x) (waits t y) h in ap₂ Store (put_unheld e x i.0) (put_unheld e y i.1)

  pub settle-bound : (xs : List Itb) (s : Way) → any_holds t xs ≡ false → any_makes t xs ≡ false → settle xs (bound t v s) ≡ bound t v (settle xs s)
  settle-bound [] s h d = refl
  settle-bound (x ∷ xs) s h d =
      let i = neither (holds t x.work) (any_holds t xs) h in
      let j = neither (same_tag (makes x.work) t) (any_makes t xs) d in
      ap (λ (w : Work). settle xs (now x.address w (bound t v s))) (put_work_unheld s.tags x.work i.0)
      ∙ ap (settle xs) (now-bound x.address (put_work s.tags x.work) s (ap (λ (r : Tag). same_tag r t) (makes-put s.tags x.work) ∙ j.0))
      ∙ settle-bound xs (turn x.address x.work s) i.1 j.1

  pub put_regs_unheld : (e : Stands) (rf : List Register) → any_reg t rf ≡ false → put_regs (bind t (Known v) e) rf ≡ put_regs e rf
  put_regs_unheld e [] h = refl
  put_regs_unheld e (r ∷ rf) h =
      let i = neither (waits t r.holds) (any_reg t rf) h in
      ap₂ (λ x y. register x ∷ y) (put_unheld e r.holds i.0) (put_regs_unheld e rf i.1)

-- ---- where there is no Jz, the counter is only carried along

module _ (c : InstrAddr) where
  now-turned : (a : InstrAddr) (w : Work) (s : Way) → is_jz w ≡ false → now a w (turned c s) ≡ turned c (now a w s)
  now-turned a (Done t v) s j = refl
  now-turned a (Op t n x y) s j = either_on (turned c) (λ v. bound t v s) _ _ _ (λ _. refl) refl (operated n x y)
  now-turned a (Jz x y) s j = absurd (true≢false j)
  now-turned a (Load t x) s j = either_on (turned c) (λ v. bound t v s) _ _ _ (λ _. refl) refl (loaded s.kept s.memory x)
  now-turned a (Store x y) s j = either_on (turned c) (λ m. stored m s) _ _ _ (λ _. refl) refl (written s.kept s.memory x y)

  pub settle-turned : (xs : List Itb) (s : Way) → any_jz xs ≡ false → settle xs (turned c s) ≡ turned c (settle xs s)
  settle-turned [] s j = refl
  settle-turned (x ∷ xs) s j =
      let n = neither (is_jz x.work) (any_jz xs) j in
      ap (settle xs) (now-turned x.address (put_work s.tags x.work) s (jz_put s.tags x.work ∙ n.0))
      ∙ settle-turned xs (turn x.address x.work s) n.1

-- ---- where no template accesses memory, so is memory, and none is kept

pub any_memory-append : (xs ys : List Itb) → any_memory (xs ++ ys) ≡ (any_memory xs || any_memory ys)
any_memory-append [] ys = refl
any_memory-append (x ∷ xs) ys = rw (any_memory-append xs ys) (sym (or_assoc (is_memory x.work) (any_memory xs) (any_memory ys)))

-- the kept ones access no memory, which is m
pub record Still (m : List Value) (s : Way) : Type 0 where
  pub clear : any_memory s.kept ≡ false
  pub same : s.memory ≡ m

module _ (m : List Value) where
  still_keep : (a : InstrAddr) (w : Work) (s : Way) → is_memory w ≡ false → Still m s → Still m (keep a w s)
  still_keep a w s h k = record { clear = any_memory-append s.kept (ITB a w ∷ []) ∙ rw (k.clear, h); same = k.same }

  still_either : {A : Type 0} (f : A → Way) (o : Way) → ((x : A) → Still m (f x)) → Still m o → (r : Result A Refusal) → Still m (either f o r)
  still_either f o h k (Ok x) = h x
  still_either f o h k (Err n) = k

  now_still : (a : InstrAddr) (w : Work) (s : Way) → is_memory w ≡ false → Still m s → Still m (now a w s)
  now_still a (Done t v) s h k = record { clear = k.clear; same = k.same }
  now_still a (Op t n x y) s h k =
      still_either (λ v. bound t v s) (keep a (Op t n x y) s) (λ _. record { clear = k.clear; same = k.same }) (still_keep a (Op t n x y) s h k) (operated n x y)
  now_still a (Jz x y) s h k =
      still_either (λ ia. turned ia s) (keep a (Jz x y) s) (λ _. record { clear = k.clear; same = k.same }) (still_keep a (Jz x y) s h k) (branched a x y)
  now_still a (Load t x) s h k = absurd (true≢false h)
  now_still a (Store x y) s h k = absurd (true≢false h)

  pub settle_still : (xs : List Itb) (s : Way) → any_memory xs ≡ false → Still m s → Still m (settle xs s)
  settle_still [] s h k = k
  settle_still (x ∷ xs) s h k =
      let n = neither (is_memory x.work) (any_memory xs) h in
      settle_still xs (turn x.address x.work s) n.1 (now_still x.address (put_work s.tags x.work) s (memory-put s.tags x.work ∙ n.0) k)

  now-stored : (a : InstrAddr) (w : Work) (s : Way) → is_memory w ≡ false → now a w (stored m s) ≡ stored m (now a w s)
  now-stored a (Done t v) s h = refl
  now-stored a (Op t n x y) s h = either_on (stored m) (λ v. bound t v s) _ _ _ (λ _. refl) refl (operated n x y)
  now-stored a (Jz x y) s h = either_on (stored m) (λ ia. turned ia s) _ _ _ (λ _. refl) refl (branched a x y)
  now-stored a (Load t x) s h = absurd (true≢false h)
  now-stored a (Store x y) s h = absurd (true≢false h)

  pub settle-stored : (xs : List Itb) (s : Way) → any_memory xs ≡ false → settle xs (stored m s) ≡ stored m (settle xs s)
  settle-stored [] s h = refl
  settle-stored (x ∷ xs) s h =
      let n = neither (is_memory x.work) (any_memory xs) h in
      ap (settle xs) (now-stored x.address (put_work s.tags x.work) s (memory-put s.tags x.work ∙ n.0))
      ∙ settle-stored xs (turn x.address x.work s) n.1
