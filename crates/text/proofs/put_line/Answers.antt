use Rattle.text.proofs.Lining.{first-room, numbers-room, feed_room, line-put}
use Rattle.text.proofs.put_line.Goals as goal

pub put_all-first-requires : goal.put_all-first-requires
put_all-first-requires c = first-room c.args.word.now c.args.numbers.now c.args.text.now c.args.at c.requires

pub put_fields-end-requires : goal.put_fields-end-requires
put_fields-end-requires c = numbers-room c.args.word.now c.args.numbers.now c.args.text.now c.args.at
    c.requires _ _ c.put_all-first.ensures

pub put_one-requires : goal.put_one-requires
put_one-requires c = feed_room c.args.word.now c.args.numbers.now c.args.text.now c.args.at c.requires _ _ c.put_all-first.ensures _ _
    c.put_fields-end.ensures

pub returns : goal.returns
returns c = line-put c.args.word.now c.args.numbers.now c.args.text.now c.args.at c.requires _ _ c.put_all-first.ensures _ _
    c.put_fields-end.ensures _ _ c.put_one.ensures
