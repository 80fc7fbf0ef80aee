-- What the messages of a GOOSE control block come to.
use Rattle.std.specs.Prelude.{ℕ, ◌+◌, ◌-◌, ◌*◌, not, ◌&&◌, Bool, ◌==◌, nat_lt, if◌then◌else◌}
use Rattle.dfr_bus.specs.declared.goose.Goose.{Goose}
use Rattle.dfr_look.specs.declared.talk.Message.{Message}
use Rattle.dfr_look.specs.declared.talk.Turn.{Turn}
use Rattle.dfr_look.specs.declared.talk.Turn.TheVariants.{Repeated, Further, State, Back}
use Rattle.dfr_look.specs.declared.talk.Talk.{Talk}
use Rattle.dfr_look.specs.Tracks.{up}
use Rattle.dfr_look.specs.Flows.{counts}

-- what a message says, that came at this nanosecond
abbrev pub message_of : Goose → (time : ℕ) → Message
message_of g time = record {
  state = g.st_num;
  number = g.sq_num;
  live = g.time_allowed_to_live;
  test = g.test;
  commissioning = g.nds_com;
  revision = g.conf_rev;
  entries = g.entries;
  time = time;
}

-- what a message is after the one before it: that one once more; a further one of its state, with so many lost between them; one of a new
-- state, with so many states lost between them; or one of a state or a number before: out of order, or its sender began anew
abbrev pub turn : Message → Message → Turn
turn before m =
    if m.state == before.state && m.number == before.number then Repeated
    else if m.state == before.state && nat_lt before.number m.number then Further (m.number - before.number - 1)
    else if nat_lt before.state m.state then State (m.state - before.state - 1)
    else Back

-- a message came later than the one before it allows: its time to live is in milliseconds
abbrev pub is_expired : Message → Message → Bool
is_expired before m = nat_lt (before.time + before.live * 1_000_000) m.time

-- of a new state the messages from number 0 on are lost that did not come
abbrev pub turned : Turn → Message → Talk → Talk
turned Repeated m t = record t { repeated = up t.repeated 1 }
turned (Further lost) m t = record t { lost = up t.lost lost }
turned (State lost) m t = record t { states = up t.states 1; lost_states = up t.lost_states lost; lost = up t.lost m.number }
turned Back m t = record t { back = up t.back 1 }

-- what a message counts for by itself
abbrev pub noted : Message → Talk → Talk
noted m t = record t {
  newest = m;
  messages = up t.messages 1;
  tests = up t.tests (counts m.test);
  commissioning = up t.commissioning (counts m.commissioning);
  expired = up t.expired (counts (is_expired t.newest m));
  changed = up t.changed (counts (not (m.entries == t.first.entries && m.revision == t.first.revision)));
}

abbrev pub first_talk : Message → Talk
first_talk m = record {
  first = m;
  newest = m;
  messages = 1;
  lost = 0;
  states = 0;
  lost_states = 0;
  repeated = 0;
  back = 0;
  tests = counts m.test;
  commissioning = counts m.commissioning;
  expired = 0;
  changed = 0;
}

abbrev pub talk_after : Talk → Message → Talk
talk_after t m = noted m (turned (turn t.newest m) m t)
