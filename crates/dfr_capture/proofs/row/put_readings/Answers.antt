use Rattle.std.proofs.Common.{◌∙◌, sym}
use Rattle.dfr_capture.proofs.Channels.{text_more, text_end, lost_more, lost_end}
use Rattle.dfr_capture.proofs.row.put_readings.Goals as goal

pub loop-n-preserved : goal.loop-n-preserved
loop-n-preserved g c =
    let so = c.loop-n.invariant in
    let put = c.in_ok-put_channel.ensures in
    record {
      text = text_more c.args.scan.now c.args.channels.now c.loop-n.n _ c.loop-n.out.items c.put_channel.new.out.items c.loop-n-test.true put.text ∙ so.text;
      told = lost_more c.args.scan.now c.args.channels.now c.loop-n.n _ c.loop-n.missing.items c.put_channel.new.missing.items c.loop-n-test.true put.told ∙ so.told;
    }

pub returns-clause-text : goal.returns-clause-text
returns-clause-text g c = sym (text_end c.args.scan.now c.args.channels.now c.loop-n.n c.loop-n.out.items c.loop-n-test.false) ∙ c.loop-n.invariant.text

pub returns-clause-told : goal.returns-clause-told
returns-clause-told g c = sym (lost_end c.args.scan.now c.args.channels.now c.loop-n.n c.loop-n.missing.items c.loop-n-test.false) ∙ c.loop-n.invariant.told
