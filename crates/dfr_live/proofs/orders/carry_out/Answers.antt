use Rattle.std.proofs.Common.{◌≡◌, ap, Ok, ◌∙◌, sym, subst, Bool}
use Rattle.std.specs.Prelude.{is_some}
use Rattle.dfr_live.specs.Seen.{TokenParts}
use Rattle.dfr_live.specs.Devices.{MadeAll}
use Rattle.dfr_live.proofs.Placing.{MadeSoFar, made_more, made_waited, made_end, seat_kept, seat_made, if_known}
use Rattle.dfr_live.proofs.orders.carry_out.Goals as goal

pub loop-preserved-in-Made : goal.loop-preserved-in-Made
loop-preserved-in-Made g c =
    let one = c.in_ok-turn.ensures.made (ap Ok c.in-Made.is) in (
      tt,
      tt,
      seat_made g.O.Desk.asks g.O.Desk.hears _ _ _ _ _ _ one ∙ c.loop.invariant.2,
      c.turn.ensures.known,
      made_more g.O.Desk.asks g.O.Desk.hears _ _ _ _ _ _ _ c.loop.invariant.4 one,
    )

pub loop-preserved : goal.loop-preserved
loop-preserved g c =
    let one = c.in_ok-turn.ensures.waited (ap Ok c.in-Waited.is) in
    let so_far = made_waited g.O.Desk.asks g.O.Desk.hears c.args.desk.now c.loop.desk c.turn.new.desk (is_some c.loop.turns.all) c.loop.token c.turn.new.token c.loop.invariant.4 one.0 one.2 in (
      tt,
      tt,
      ap (λ (z : TokenParts). z.seat) one.0.4 ∙ c.loop.invariant.2,
      c.turn.ensures.known,
      subst (λ (b : Bool). MadeSoFar g.O.Desk.asks g.O.Desk.hears c.args.desk.now c.turn.new.desk b c.turn.new.token) (sym (ap is_some one.1)) so_far,
    )

pub returns-in-Done-clause-all : goal.returns-in-Done-clause-all
returns-in-Done-clause-all g c =
    let last = c.in_ok-turn.ensures.done (ap Ok c.in-Done.is) in
    if_known _ _
    (λ all. (c.pump_out.new.token.seat ≡ c.args.token.now.seat)
    × MadeAll g.O.Desk.asks g.O.Desk.hears c.args.desk.now c.pump_out.new.token.made c.pump_out.new.token.pumped c.turn.new.desk
    × (all.of ≡ c.args.signals.now.given.id) × (all.value ≡ c.pump_out.new.token.pumped))
    (λ all h. (
      seat_kept (is_some c.turn.new.turns.all) c.turn.new.token c.pump_out.new.token h.2 ∙ ap (λ (z : TokenParts). z.seat) last.2 ∙ c.loop.invariant.2,
      made_end g.O.Desk.asks g.O.Desk.hears c.args.desk.now c.loop.desk c.turn.new.desk (is_some c.loop.turns.all) (is_some c.turn.new.turns.all) c.loop.token c.turn.new.token c.pump_out.new.token c.loop.invariant.4 last.0 (ap is_some last.1) last.2 h.2,
      h.0,
      h.1,
    ))
    c.pump_out.ensures.out
