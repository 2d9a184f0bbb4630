-- A run accepts the longest part of a schedule whose records are each allowed where they stand, and counts it.
use Prim.Native.Nat.{ℕ, zero, suc, ◌+◌, ◌≤◌, ◌<◌}
use native.Mathlib.Decide.{dec_lt}
use native.Mathlib.Omega.{arith}
use mathlib.Core.Path.{◌≡◌, refl, sym, ap, ◌∙◌, subst}
use Rattle.std.specs.Prelude.{Ok, Err, IsErr}
use Rattle.records.specs.declared.Refusal.{Refusal}
use mathlib.Core.List.{List, [], ◌∷◌}
use lib.ListN.{length, take}
use lib.Seq.{take-length}
use Rattle.value.specs.declared.Value.{Value}
use Rattle.isa.specs.declared.Instr.{Instr}
use Rattle.templates.specs.Machine.{Mach}
use Rattle.rules.specs.declared.Command.{Command}
use Rattle.rules.specs.declared.Command.TheVariants.{Malformed, Issue, Apply}
use Rattle.rules.specs.Rules.{Step, accepted, refused}
use Rattle.rules.specs.Schedule.{obey}
use Rattle.rules.specs.Run.{End, counted, proceed, run_from, run}
use Rattle.rules.specs.Schedules.{obeyed, issues, RanTo}

-- after n accepted records, k of them issues, a run accepts `more`
record Further (prog : List Instr) (cs : List Command) (n k : ℕ) (σ : Mach) (m : List Value) (e : End) : Type 0 where
  more : ℕ
  sum : e.accepted ≡ n + more
  within : more ≤ length cs
  allowed : obeyed prog (take more cs) σ m ≡ accepted e.machine e.memory
  issued : e.issued ≡ k + issues (take more cs)
  longest : (i : ℕ) → more < i → i ≤ length cs → (why : Refusal) × (obeyed prog (take i cs) σ m ≡ refused why) × (e.verdict ≡ Err why)
  to_the_end : more ≡ length cs → e.verdict ≡ Ok tt
  cut_short : more < length cs → IsErr e.verdict

counted_more : (c : Command) (k i : ℕ) → counted c k + i ≡ k + counted c i
counted_more Malformed k i = refl
counted_more (Issue t) k i = omega arith
counted_more (Apply r place) k i = refl

module _ (prog : List Instr) where
  further : (cs : List Command) (n k : ℕ) (σ : Mach) (m : List Value) → Further prog cs n k σ m (run_from prog cs n k σ m)
  unfolding run_from
  further [] n k σ m =
      record {
        more = 0;
        sum = omega arith;
        within = omega arith;
        allowed = refl;
        issued = omega arith;
        longest = λ i l h. absurd (omega arith);
        to_the_end = λ _. refl;
        cut_short = λ l. absurd (omega arith);
      }
  further (c ∷ cs) n k σ m = first _ (λ why. refl) (obey prog c σ m) refl (λ σ' m'. further cs (n + 1) (counted c k) σ' m')
    where
      -- a refused record leaves the counts, the machine and memory as they were
      first : (here : Refusal → End) → ((why : Refusal) → here why ≡ record { accepted = n; issued = k; verdict = Err why; machine = σ; memory = m })
          → (r : Step) → obey prog c σ m ≡ r
          → ((σ' : Mach) (m' : List Value) → Further prog cs (n + 1) (counted c k) σ' m' (run_from prog cs (n + 1) (counted c k) σ' m'))
          → Further prog (c ∷ cs) n k σ m
          (proceed (λ σ' m'. run_from prog cs (n + 1) (counted c k) σ' m') here r)
      first here same (accepted σ' m') e rest =
          let f = rest σ' m' in
          record {
            more = suc f.more;
            sum = omega (arith, f.sum);
            within = omega (arith, f.within);
            allowed = rw e f.allowed;
            issued = f.issued ∙ counted_more c k (issues (take f.more cs));
            longest = longer f;
            to_the_end = λ q. f.to_the_end (omega arith);
            cut_short = λ l. f.cut_short (omega arith);
          }
        where
          longer : (f : Further prog cs (n + 1) (counted c k) σ' m' (run_from prog cs (n + 1) (counted c k) σ' m')) (i : ℕ) → suc f.more < i → i ≤ suc (length cs)
              → (why : Refusal) × (obeyed prog (take i (c ∷ cs)) σ m ≡ refused why) × ((run_from prog cs (n + 1) (counted c k) σ' m').verdict ≡ Err why)
          longer f zero l h = absurd (omega arith)
          longer f (suc i) l h = rw e (f.longest i (omega arith) (omega arith))
      first here same (refused why) e rest =
          subst (Further prog (c ∷ cs) n k σ m) (sym (same why))
          (record {
            more = 0;
            sum = omega arith;
            within = omega arith;
            allowed = refl;
            issued = omega arith;
            longest = λ i l h. (why, longer i l h, refl);
            to_the_end = λ q. absurd (omega arith);
            cut_short = λ _. refl;
          })
        where
          longer : (i : ℕ) → 0 < i → i ≤ suc (length cs) → obeyed prog (take i (c ∷ cs)) σ m ≡ refused why
          longer zero l h = absurd (omega arith)
          longer (suc i) l h = rw e

  module _ (cs : List Command) (σ : Mach) (m : List Value) where
    pub run_accepts : RanTo prog cs σ m (run prog cs σ m)
    run_accepts =
        let f : Further prog cs 0 _ σ m (run prog cs σ m) = further cs 0 _ σ m in
        let all : f.more ≡ (run prog cs σ m).accepted = omega (arith, f.sum) in
        record {
          within = rw (← all) f.within;
          allowed = rw (← all) f.allowed;
          issued = rw (← all) (f.issued ∙ omega arith);
          longest = λ n l h. f.longest n (omega arith) h;
          to_the_end = λ q. f.to_the_end (all ∙ q);
          cut_short = λ l. f.cut_short (omega arith);
        }

    -- a schedule each of whose records is allowed where it stands is accepted to its end
    pub allowed_accepted : {σ' : Mach} {m' : List Value} → obeyed prog cs σ m ≡ accepted σ' m'
        → run prog cs σ m ≡ record { accepted = length cs; issued = issues cs; verdict = Ok tt; machine = σ'; memory = m' }
    allowed_accepted {σ'} {m'} e = all (dec_lt (run prog cs σ m).accepted (length cs))
      where
        whole : obeyed prog (take (length cs) cs) σ m ≡ accepted σ' m'
        whole = ap (λ (ds : List Command). obeyed prog ds σ m) (take-length cs) ∙ e

        all : Dec ((run prog cs σ m).accepted < length cs)
            → run prog cs σ m ≡ record { accepted = length cs; issued = issues cs; verdict = Ok tt; machine = σ'; memory = m' }
        all (yes l) =
            let l' = run_accepts.longest (length cs) l (omega arith) in
            let never : ◌≡◌ {A = Step} (accepted σ' m') (refused l'.0) = sym whole ∙ l'.1 in
            let z : ◌≡◌ {A = ℕ} 0 1 = cc in
            absurd (omega arith)
        all (no l) =
            let r = run_accepts in
            let n : (run prog cs σ m).accepted ≡ length cs = omega (arith, r.within) in
            let same : ◌≡◌ {A = Step} (accepted (run prog cs σ m).machine (run prog cs σ m).memory) (accepted σ' m') =
            sym r.allowed ∙ ap (λ (i : ℕ). obeyed prog (take i cs) σ m) n ∙ whole in
            let σs : (run prog cs σ m).machine ≡ σ' = cc in
            let ms : (run prog cs σ m).memory ≡ m' = cc in
            let count : (run prog cs σ m).issued ≡ issues cs = r.issued ∙ ap (λ (i : ℕ). issues (take i cs)) n ∙ ap issues (take-length cs) in
            let end : (run prog cs σ m).verdict ≡ Ok tt = r.to_the_end n in
            λ i. record { accepted = n i; issued = count i; verdict = end i; machine = σs i; memory = ms i }
