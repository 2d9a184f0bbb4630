-- `sound::is_sound` meets its contract.
use Rattle.rows.proofs.Showing.{turned_long, turned_shows}
use Rattle.sound.proofs.Turned.{sound_turned}
use Rattle.sound.proofs.is_sound.Goals as goal

pub returns : goal.returns
returns c =
    let u = c.rows-ts.ensures in
    sound_turned c.args.s (turned_long u) (turned_shows u) c.numbers-rf.ensures c.args.instructions c.sound_on.ensures
