use Rattle.comtrade_format.proofs.Refusals.{head_parts, channels_few}
use Rattle.comtrade_format.proofs.bytes.cfg_text.Goals as goal

pub put_head-requires : goal.put_head-requires
put_head-requires g c =
    let p = head_parts _ c.requires in
    record { few = channels_few _ _ p.channels; first = p.first; trigger = p.trigger }
