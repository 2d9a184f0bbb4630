-- What a text in the output makes of the answer.
use mathlib.Core.Path.{◌≡◌, refl, sym, ap, subst, ◌∙◌}
use Rattle.std.specs.Prelude.{Ok, Err}
use Rattle.records.specs.Refusal.{number_of, fault}
use Prim.Native.Nat.{ℕ, ◌%◌, ◌<◌, ◌≤◌}
use native.Mathlib.Omega.{arith}
use mathlib.Core.Bool.{Bool, true, false, cond, ◌&&◌}
use mathlib.Core.List.{List}
use lib.Dec.{eqb, leb}
use lib.ListN.{length}
use borrow.Author.Tests.{le-leb, lt-leb, leb-true}
use Rattle.records.specs.declared.Refusal.TheVariants.{BadLength}
use Rattle.records.specs.Records.{is_whole}
use Rattle.records.proofs.Basics.{both}
use Rattle.isa.specs.Program as Program
use Rattle.cells.specs.Cells as Cells
use Rattle.cells.specs.Cells.{cells}
use Rattle.templates.specs.declared.State.{State}
use Rattle.text.proofs.Puts.{put-into}
use Rattle.lines.specs.Lines as Lines
use Rattle.lines.specs.Lines.{Puts}
use Rattle.report.specs.declared.Input.{Input}
use Rattle.report.specs.Report.{refused, fit, is_schedule, unless, judged, input_text, contents_text, run_text, report, room, has_room, is_fit, after_drain, Writes, Reports, Shows}

-- ---- a memory that is whole cells
whole_few : (b : List ℕ) → is_whole b ≡ true → length b ≤ 8192
whole_few b e = leb-true (length b) 8192 (both (eqb (length b % 8) 0) (leb (length b) 8192) e).1

-- ---- a text and the output
module _ (t out : List ℕ) where
  pub writes-none : Writes false t out (Err BadLength) out
  writes-none = record { answer = refl; output = refl; within = tt }

  pub writes-all : {n k : ℕ} {b out' : List ℕ} → Puts out 0 t k n b → out' ≡ b → k < length out → Writes true t out (Ok n) out'
  writes-all p same h =
      let whole = put-into p.text (omega (arith, p.text.next, p.most)) in
      record { answer = ap (λ (n : ℕ). Ok n) whole.0; output = same ∙ whole.1; within = omega (arith, p.most) }

-- ---- the report
module _ (p m s out : List ℕ) where
  pub reports_none : length out < room → Reports p m s out (Err BadLength) m out
  reports_none h = let no : has_room out ≡ false = lt-leb _ _ h in record { writes = rw no (writes-none _ out); memory = rw no refl }

  module _ (h : room ≤ length out) where
    has : has_room out ≡ true
    has = le-leb _ _ h

    pub reports_input : {f : Input} → Err f ≡ judged p m s → {k n : ℕ} {b out' : List ℕ} → k ≡ number_of f.fault.refusal → Puts out 0 (Lines.input_text f.file k f.fault.number) 35 n b → out' ≡ b → Reports p m s out (Ok n) m out'
    unfolding report
    reports_input {f} e {k} {n} {b} {out'} named q same =
        let line : Puts out 0 (input_text f) 35 n b = rw (← named) q in
        let said-same : input_text f ≡ report p m s = rw (← e) refl in
        let test : is_fit p m s ≡ false = rw (← e) refl in
        record {
          writes = rw has (subst (λ (t : List ℕ). Writes true t out (Ok n) out') said-same (writes-all (input_text f) out line same (omega (arith, h))));
          memory = rw (has, test) refl;
        }

    module _ (e : fit ≡ judged p m s) where
      pub reports_run : {n : ℕ} {m' b out' : List ℕ} → Puts out 0 (run_text p m s) 24425 n b → out' ≡ b → m' ≡ after_drain p m s → Reports p m s out (Ok n) m' out'
      unfolding report
      reports_run {n} {m'} {b} {out'} q same left =
          let said-same : run_text p m s ≡ report p m s = rw (← e) refl in
          let test : is_fit p m s ≡ true = rw (← e) refl in
          record {
            writes = rw has (subst (λ (t : List ℕ). Writes true t out (Ok n) out') said-same (writes-all (run_text p m s) out q same (omega (arith, h))));
            memory = rw (has, test) left;
          }

      pub fit_few : length m ≤ 8192
      unfolding judged
      fit_few = go (is_whole p) (is_whole m) refl (sym e)
        where
          go : (a b : Bool) → is_whole m ≡ b
              → cond a (cond b (cond (is_schedule s) (unless 1 (Program.scan_of p) (unless 2 (Cells.scan_of m) fit)) (refused 3 (fault BadLength 0))) (refused 2 (fault BadLength 0))) (refused 1 (fault BadLength 0)) ≡ fit
              → length m ≤ 8192
          go true true g o = whole_few m g
          go true false g o = cc
          go false b g o = cc

-- ---- what a machine holds
module _ (s : State) (m out : List ℕ) where
  pub shows-none : is_whole m && has_room out ≡ false → Shows s m out (Err BadLength) out
  shows-none e = rw e (writes-none _ out)

  pub shows-all : is_whole m && has_room out ≡ true → {n : ℕ} {b out' : List ℕ} → Puts out 0 (contents_text s (cells m)) 24302 n b → out' ≡ b → Shows s m out (Ok n) out'
  shows-all e q same = let h = leb-true room (length out) (both (is_whole m) (has_room out) e).1 in rw e (writes-all _ out q same (omega (arith, h)))

  pub shows_few : is_whole m && has_room out ≡ true → length m ≤ 8192
  shows_few e = whole_few m (both (is_whole m) (has_room out) e).0
