-- `records::put_record` meets its contract.
use Rattle.std.proofs.Common.{arith, ap, sym, ◌∙◌, ◌≡◌, ◌+◌, ◌-◌, ◌++◌, take, drop, drop-drop, append_assoc}
use Rattle.std.proofs.lemmas.List.Edits.{sets-eq}
use Rattle.records.specs.Records.{bytes}
use Rattle.records.proofs.put_record.Goals as goal

pub returns : goal.returns
returns c =
    let b = c.args.out.now in
    let a = c.args.at in
    let eight : a + 8 - a ≡ 8 = omega arith in
    rw (eight, c.copy_from_slice.ensures.after, c.to_le_bytes-word.ensures)
    (ap (λ l. take a b ++ (bytes c.args.r ++ l)) (drop-drop 8 a b)
    ∙ sym (append_assoc (take a b) (bytes c.args.r) (drop (a + 8) b))
    ∙ sym (sets-eq (bytes c.args.r) b a c.requires))
