-- The text of a run, from what the run, the drain and the lines promise.
use mathlib.Core.Path.{◌≡◌, ap, ap₂, subst, ◌∙◌}
use Prim.Native.Nat.{ℕ}
use mathlib.Core.List.{List}
use Rattle.cells.specs.Cells.{cells}
use Rattle.templates.specs.declared.State.{State}
use Rattle.templates.specs.Machine.{start}
use Rattle.templates.specs.Layout.{state_of}
use Rattle.renaming.specs.declared.Ran.{Ran}
use Rattle.renaming.specs.declared.Settled.{Settled}
use Rattle.renaming.specs.Entries.{ran, ran_memory, drained, drained_memory, Runs, Drains}
use Rattle.text.specs.declared.Page.{Page}
use Rattle.lines.specs.Lines.{ran_text, AddsWithin}
use Rattle.lines.proofs.Putting.{then}
use Rattle.report.specs.Report.{the_run, after_run, the_drain, after_drain, refusal_of, end_text, contents_text, told, run_text, Tells}

module _ {p m s : List ℕ} {page : Page} where
  pub run-told : {σ : State} {r : Ran} {d : Settled} {m₁ m₂ : List ℕ} {q₁ q₂ q₃ : Page} {n : ℕ}
      → σ ≡ state_of start
      → Runs p σ m s r m₁
      → Drains p r.state m₁ d m₂
      → n ≡ refusal_of r.verdict
      → AddsWithin page (ran_text r.accepted n r.issued) 70 q₁
      → AddsWithin q₁ (end_text d) 53 q₂
      → AddsWithin q₂ (contents_text d.state (cells m₂)) 24302 q₃
      → Tells p m s page 24425 m₂ q₃
  unfolding run_text
  run-told {σ} {r} {d} {m₁} {m₂} {q₁ = q₁} {q₃ = q₃} e runs drains named first second third =
      let ran-same : r ≡ the_run p m s = runs.answer ∙ ap (λ (σ : State). ran p σ m s) e in
      let run-memory : m₁ ≡ after_run p m s = runs.bytes ∙ ap (λ (σ : State). ran_memory p σ m s) e in
      let drained-same : d ≡ the_drain p m s = drains.answer ∙ ap₂ (λ (r : Ran) (b : List ℕ). drained p r.state b) ran-same run-memory in
      let memory-same : m₂ ≡ after_drain p m s = drains.bytes ∙ ap₂ (λ (r : Ran) (b : List ℕ). drained_memory p r.state b) ran-same run-memory in
      let text_same : told r d m₂ ≡ told (the_run p m s) (the_drain p m s) (after_drain p m s) =
      ap (λ (r : Ran). told r d m₂) ran-same ∙ ap₂ (λ (d : Settled) (b : List ℕ). told (the_run p m s) d b) drained-same memory-same in
      let line : AddsWithin page (ran_text r.accepted (refusal_of r.verdict) r.issued) 70 q₁ = rw (← named) first in
      record {
        text = subst (λ (t : List ℕ). AddsWithin page t 24425 q₃) text_same (then line (then second third));
        memory = memory-same;
      }
