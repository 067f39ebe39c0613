-- The records lie in the room, and the place in the text, by what the call ensures.
use Rattle.std.proofs.Common.{rules, arith, ◌≡◌, ◌*◌, sym, length, take, replicate}
use lib.Seq.{length-take-le}
use Rattle.program_read.proofs.Places.{in-text, in-room}
use Rattle.program_read.proofs.show.show_reply.Goals as goal

pub overflow_mul-room : goal.overflow_mul-room
overflow_mul-room g c =
    let within = in-room (take c.args.n c.args.text.now) (replicate 704 0) c.litmus.new.room c.in-Ok.k c.in-Ok.ensures in
    omega arith

pub slice_bounds-room-end : goal.slice_bounds-room-end
slice_bounds-room-end g c =
    let within = in-room (take c.args.n c.args.text.now) (replicate 704 0) c.litmus.new.room c.in-Ok.k c.in-Ok.ensures in
    let long : length c.litmus.new.room ≡ 704 = c.litmus.auto.room in
    omega arith

pub slice_bounds-keep-end : goal.slice_bounds-keep-end
slice_bounds-keep-end g c =
    let within = in-room (take c.args.n c.args.text.now) (replicate 704 0) c.litmus.new.room c.in-Ok.k c.in-Ok.ensures in
    let long : length c.litmus.new.room ≡ 704 = c.litmus.auto.room in
    sym (length-take-le (c.in-Ok.k * 8) c.litmus.new.room (omega arith))

pub say_refusal-requires-clause-in_text : goal.say_refusal-requires-clause-in_text
say_refusal-requires-clause-in_text g c =
    let inside = in-text (take c.args.n c.args.text.now) (replicate 704 0) c.litmus.new.room c.in-Err.refused c.in-Err.ensures in
    let long : length (take c.args.n c.args.text.now) ≡ c.args.n = length-take-le c.args.n c.args.text.now (search rules) in
    λ h. rw (← long) (inside h)
