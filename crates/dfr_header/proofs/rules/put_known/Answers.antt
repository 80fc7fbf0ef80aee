use Rattle.std.proofs.Common.{append_assoc}
use Rattle.dfr_header.specs.Rules.{known_text}
use Rattle.dfr_header.proofs.rules.put_known.Goals as goal

pub returns : goal.returns
unfolding known_text
returns g c = rw (c.in_ok-put_rule_lines.ensures, c.in_ok-put.ensures) (simp append_assoc)
