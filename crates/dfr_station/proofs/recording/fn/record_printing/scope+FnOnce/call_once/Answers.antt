use Rattle.dfr_station.proofs.recording.fn.record_printing.scope+FnOnce.call_once.Goals as goal

pub scope-requires : goal.scope-requires
scope-requires g c =
    let b = c.requires.1.1.1.1.1.1 in
    (b.0, (b.1, (b.2, (b.3, (b.4, (b.5, (b.6, b.7)))))))
