-- What lies within no bytes lies within any.
use Rattle.std.proofs.Common.{ℕ, arith}
use Rattle.dfr_pcap.specs.declared.block.News.{News}
use Rattle.dfr_pcap.specs.declared.block.News.TheVariants as news
use Rattle.dfr_pcap.specs.declared.block.Outcome.{Outcome}
use Rattle.dfr_pcap.specs.declared.block.Outcome.TheVariants as outcomes
use Rattle.dfr_pcap.specs.Bounds.{HasContent, IsSound}

more_content : (said : News) (n : ℕ) → HasContent said 0 → HasContent said n
more_content news.Nothing n h = tt
more_content (news.Section o) n h = tt
more_content (news.Interface i) n h = tt
more_content (news.Packet m count all) n h = omega (arith, h)

pub more_sound : (r : Outcome) (n : ℕ) → IsSound r 0 → IsSound r n
more_sound outcomes.Wait n h = tt
more_sound (outcomes.Fault k flaw) n h = h
more_sound (outcomes.Pass f) n h = (h.0, h.1, more_content f.news n h.2)
