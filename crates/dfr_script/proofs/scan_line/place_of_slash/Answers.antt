use Rattle.dfr_script.proofs.FirstByte.{first_is_position}
use Rattle.dfr_script.proofs.scan_line.place_of_slash.Goals as goal

pub returns : goal.returns
returns c = first_is_position 47 c.args.rest.now c.memchr.result c.memchr.ensures
