-- The drain is the oldest-first sequence: its fuel suffices, it ends where no rule is allowed, and it counts the rules.
use Prim.Native.Nat.{ℕ, zero, suc, ◌+◌, ◌*◌, ◌≤◌, ◌<◌}
use native.Mathlib.Omega.{arith}
use mathlib.Core.Path.{◌≡◌, refl, sym, ap, ap₂, ◌∙◌}
use mathlib.Core.List.{List, [], ◌∷◌}
use lib.ListN.{length}
use Rattle.value.specs.declared.Value.{Value}
use Rattle.templates.specs.Machine.{Mach, room}
use Rattle.rules.specs.Rules.{Step, accepted, refused}
use Rattle.rules.specs.Drain.{Drained, further, oldest, drain_from, drain}
use Rattle.rules.specs.Moves.{Move, move, Refused, Stuck, and_then, continued}
use Rattle.rules.specs.OldestFirst.{Oldest}
use Rattle.demands.specs.OldestFirst.{Leaves, OldestFirst, DrainsBy}
use Rattle.demands.proofs.Weight.{weight}
use Rattle.demands.proofs.Lowering.{apply_lowers_weight}
use Rattle.demands.proofs.Turns.{on_accepted, continued_bounded}
use Rattle.rules.proofs.Oldest.{Found, found, one-oldest, oldest_is, refused_not}

abbrev drained : ℕ → Mach → List Value → Drained
drained n σ m = record { rules = n; machine = σ; memory = m }

-- ---- an oldest-first sequence ends where no rule is allowed

pub ends_stuck : (vs : List Move) (σ : Mach) (m : List Value) {σ' : Mach} {m' : List Value} → OldestFirst vs σ m → continued vs σ m ≡ accepted σ' m' → Stuck σ' m'
ends_stuck [] σ m {σ'} {m'} o e =
    let here : σ ≡ σ' = cc in
    let memory : m ≡ m' = cc in
    rw (← here, ← memory) o
ends_stuck (v ∷ vs) σ m {σ'} {m'} o e = rest (move v σ m) o.1 e (λ τ l. ends_stuck vs τ l)
  where
    rest : (r : Step) → Leaves (λ τ l. OldestFirst vs τ l) r → and_then (λ τ l. continued vs τ l) r ≡ accepted σ' m'
        → ((τ : Mach) (l : List Value) → OldestFirst vs τ l → continued vs τ l ≡ accepted σ' m' → Stuck σ' m') → Stuck σ' m'
    rest (accepted τ l) h f ih = ih τ l h f
    rest (refused n) h f ih = absurd h

-- ---- there is only one

not_both : (P : Mach → List Value → Type 0) (r : Step) → Refused r → Leaves P r → ⊥
not_both P (accepted σ m) h g = h
not_both P (refused n) h g = g

pub one_sequence : (vs ws : List Move) (σ : Mach) (m : List Value) → OldestFirst vs σ m → OldestFirst ws σ m → vs ≡ ws
one_sequence [] [] σ m o q = refl
one_sequence [] (w ∷ ws) σ m o q = absurd (not_both (λ τ l. OldestFirst ws τ l) (move w σ m) (o w) q.1)
one_sequence (v ∷ vs) [] σ m o q = absurd (not_both (λ τ l. OldestFirst vs τ l) (move v σ m) (q v) o.1)
one_sequence (v ∷ vs) (w ∷ ws) σ m o q = first (move v σ m) refl o.1 (move w σ m) refl q.1 (λ τ l. one_sequence vs ws τ l)
  where
    first : (r : Step) → move v σ m ≡ r → Leaves (λ τ l. OldestFirst vs τ l) r → (s : Step) → move w σ m ≡ s → Leaves (λ τ l. OldestFirst ws τ l) s
        → ((τ : Mach) (l : List Value) → OldestFirst vs τ l → OldestFirst ws τ l → vs ≡ ws) → v ∷ vs ≡ w ∷ ws
    first (accepted τ l) e h (accepted τ' l') f g rest =
        let one : v ≡ w = one-oldest σ m v w e f o.0 q.0 in
        let same : accepted τ l ≡ accepted τ' l' = sym e ∙ ap (λ (u : Move). move u σ m) one ∙ f in
        let machine : τ ≡ τ' = cc in
        let memory : l ≡ l' = cc in
        ap₂ ◌∷◌ one (rest τ l h (rw (machine, memory) g))
    first (accepted τ l) e h (refused n) f g rest = absurd g
    first (refused n) e h s f g rest = absurd h

-- ---- the drain goes through it

drain-ends : (fuel n : ℕ) (σ : Mach) (m : List Value) → Stuck σ m → drain_from fuel n σ m ≡ drained n σ m
unfolding drain_from
drain-ends zero n σ m f = refl
drain-ends (suc fuel) n σ m f = which (oldest σ m) (found σ m)
  where
    which : (r : Step) → Found σ m r → further (λ τ l. drain_from fuel (n + 1) τ l) (drained n σ m) r ≡ drained n σ m
    which (accepted τ l) g = absurd (refused_not (f g.0) g.1)
    which (refused k) g = refl

drain_goes : (vs : List Move) (fuel n : ℕ) (σ : Mach) (m : List Value) {σ' : Mach} {m' : List Value} → OldestFirst vs σ m
    → continued vs σ m ≡ accepted σ' m' → length vs ≤ fuel → drain_from fuel n σ m ≡ drained (n + length vs) σ' m'
unfolding drain_from
drain_goes [] fuel n σ m {σ'} {m'} o e l =
    let count : n ≡ n + 0 = omega arith in
    let machine : σ ≡ σ' = cc in
    let memory : m ≡ m' = cc in
    drain-ends fuel n σ m o ∙ (λ i. drained (count i) (machine i) (memory i))
drain_goes (v ∷ vs) zero n σ m o e l = absurd (omega arith)
drain_goes (v ∷ vs) (suc fuel) n σ m {σ'} {m'} o e l = first (move v σ m) refl o.1 e (λ τ k. drain_goes vs fuel (n + 1) τ k)
  where
    first : (r : Step) → move v σ m ≡ r → Leaves (λ τ k. OldestFirst vs τ k) r → and_then (λ τ k. continued vs τ k) r ≡ accepted σ' m'
        → ((τ : Mach) (k : List Value) → OldestFirst vs τ k → continued vs τ k ≡ accepted σ' m' → length vs ≤ fuel
        → drain_from fuel (n + 1) τ k ≡ drained (n + 1 + length vs) σ' m')
        → further (λ τ k. drain_from fuel (n + 1) τ k) (drained n σ m) (oldest σ m) ≡ drained (n + suc (length vs)) σ' m'
    first (accepted τ k) f h g rest =
        let count : n + 1 + length vs ≡ n + suc (length vs) = omega arith in
        ap (further (λ τ k. drain_from fuel (n + 1) τ k) (drained n σ m)) (oldest_is σ m v f o.0) ∙ rest τ k h g (omega arith)
        ∙ ap (λ (i : ℕ). drained i σ' m') count
    first (refused k) f h g rest = absurd h

-- ---- there is one

record Sequence (σ : Mach) (m : List Value) : Type 0 where
  moves : List Move
  machine : Mach
  memory : List Value
  first : OldestFirst moves σ m
  leaves : continued moves σ m ≡ accepted machine memory

one_more : (σ : Mach) (m : List Value) (v : Move) {τ : Mach} {l : List Value} → move v σ m ≡ accepted τ l → Oldest v σ m → Sequence τ l → Sequence σ m
one_more σ m v e o s =
    record {
      moves = v ∷ s.moves;
      machine = s.machine;
      memory = s.memory;
      first = (o, rw e s.first);
      leaves = rw e s.leaves;
    }

-- each rule lowers the weight
sequence : (fuel : ℕ) (σ : Mach) (m : List Value) → weight σ < fuel → Sequence σ m
sequence zero σ m l = absurd (omega arith)
sequence (suc fuel) σ m l = which (oldest σ m) (found σ m) (λ τ k. sequence fuel τ k)
  where
    which : (r : Step) → Found σ m r → ((τ : Mach) (k : List Value) → weight τ < fuel → Sequence τ k) → Sequence σ m
    which (accepted τ k) f rest =
        let less = on_accepted _ f.1 (apply_lowers_weight f.0.rule f.0.place σ m) in
        one_more σ m f.0 f.1 f.2 (rest τ k (omega arith))
    which (refused n) f rest = record { moves = []; machine = σ; memory = m; first = f; leaves = refl }

module _ (σ : Mach) (m : List Value) (few : length σ.held ≤ room) where
  pub drains : (vs : List Move) × DrainsBy vs σ m (drain σ m)
  drains =
      let s = sequence (suc (weight σ)) σ m (omega arith) in
      let bounded = continued_bounded s.moves σ m s.leaves in
      let all = drain_goes s.moves (4 * room) 0 σ m s.first s.leaves (omega arith) in
      let count : (drain σ m).rules ≡ 0 + length s.moves = ap (λ (d : Drained). d.rules) all in (
        s.moves,
        record {
          sequence = s.first;
          leaves = s.leaves ∙ ap (λ (d : Drained). accepted d.machine d.memory) (sym all);
          counts = omega arith;
        },
      )

  pub drain_stuck : Stuck (drain σ m).machine (drain σ m).memory
  drain_stuck = let d = drains in ends_stuck d.0 σ m d.1.sequence d.1.leaves

  pub drain_bounded : (drain σ m).rules ≤ 4 * length σ.held
  drain_bounded = let d = drains in rw d.1.counts (continued_bounded d.0 σ m d.1.leaves)
