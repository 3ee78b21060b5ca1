use Prim.Native.Nat.{◌+◌, ◌≤◌, ◌<◌}
use mathlib.Core.List.{[], ◌∷◌, ◌++◌}
use mathlib.Core.Path.{◌≡◌}
use native.Mathlib.Omega.{arith}
use lib.ListN.{length, get_or, length-append}
use borrow.Author.Rules.{rules}
use Rattle.std.proofs.lemmas.Slice.Zip.{zip_turn, zip_end}
use Rattle.writing.specs.Writing.{joined}
use Rattle.writing.proofs.Putting.{none-put, room, one-put, all-put}
use Rattle.output.proofs.Messages.{message_bytes, messages-each, messages-room, message-put}
use Rattle.output.proofs.snapshot.put_messages.Goals as goal
use Rattle.output.proofs.snapshot.put_messages.Goals.{In-Some}

-- in the loop there is a message more, and this one stands at the place reached
module _ (i : In-Some) where
  values : i.into_iter-value-iterator.result.a.rest.now ≡ i.args.values.now
  values = search rules

  senders : i.into_iter-value-iterator.result.b.rest.now ≡ i.args.senders.now
  senders = search rules

  turn :
      (length i.loop-value.yielded < length i.args.values.now) × (i.in-Some.field-0-0.now ≡ get_or i.args.values.now (length i.loop-value.yielded) 0)
      × (i.in-Some.field-0-1.now ≡ get_or i.args.senders.now (length i.loop-value.yielded) 0)
  turn =
      let t =
      zip_turn i.args.values.now i.args.senders.now i.loop-value.yielded i.into_iter-value-iterator.result i.loop-value.value-iterator
      i.next.new.self i.next.result values senders i.loop-value.yielded_by _ i.in-Some.is i.next.ensures.steps in
      (t.0, t.2 0, t.3 0)

  room-for : i.args.at + length (joined (message_bytes i.args.values.now i.args.senders.now) (length i.args.values.now)) ≤ length
      i.args.snapshot.now
  room-for = messages-room _ _ _ _ i.requires.senders_len i.requires.values_in_bounds

  place : i.loop-value.next + 5 ≤ length i.loop-value.snapshot
  place = room _ _ _ _ room-for (length i.loop-value.yielded) turn.0 _ _ i.loop-value.invariant

pub loop-value-init : goal.loop-value-init
loop-value-init c = none-put _ _ _

pub put_word-behind-requires : goal.put_word-behind-requires
put_word-behind-requires c = omega (arith, place (goal.at.put_word-behind-requires c).In-Some)

pub put_one-next-requires : goal.put_one-next-requires
put_one-next-requires c = omega (
  arith,
  c.put_word-behind.ensures.place,
  c.put_word-behind.auto.buffer,
  place (goal.at.put_one-next-requires c).In-Some,
)

pub loop-value-preserved : goal.loop-value-preserved
loop-value-preserved c = let i = (goal.at.loop-value-preserved c).In-Some in
    let t = turn i in
    let one =
    message-put c.args.values.now c.args.senders.now (length c.loop-value.yielded) _ _ t.1 t.2 _ _ _ _ _ _ (place i) c.put_word-behind.ensures c.put_one-next.ensures in
    let more : length (c.loop-value.yielded ++ ((c.in-Some.field-0-0, c.in-Some.field-0-1) ∷ [])) ≡ length c.loop-value.yielded + 1 =
    length-append c.loop-value.yielded _ in
    rw more (one-put _ _ _ _ (room-for i) _ t.0 _ _ c.loop-value.invariant _ _ one)

pub returns : goal.returns
returns c = let e : length c.loop-value.yielded ≡ length c.args.values.now = omega (arith, zip_end c.args.values.now c.args.senders.now c.loop-value.yielded c.into_iter-value-iterator.result c.loop-value.value-iterator c.next.new.self c.next.result (search rules) (search rules) c.loop-value.yielded_by c.in-None.is c.next.ensures.steps, c.requires.senders_len) in
    rw (messages-each _ _ c.requires.senders_len) at (all-put _ _ _ (length c.args.values.now) (length c.loop-value.yielded) _ _ (omega arith) (omega arith) c.loop-value.invariant)
