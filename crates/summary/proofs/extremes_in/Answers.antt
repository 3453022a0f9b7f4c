-- `summary::extremes_in` meets its contract.
use Rattle.std.proofs.Common.{◌≤◌, arith}
use Rattle.summary.proofs.Laws.Checked.{checked_holds, some_keys, keys_long, logs_long, extremes_none, extremes_some}
use Rattle.summary.proofs.extremes_in.Goals as goal

pub returns-then-o-eq0 : goal.returns-then-o-eq0
returns-then-o-eq0 c = let s = c in extremes_none s.args.file.now s.args.o s.requires (omega arith)

pub bytes_of-keys-requires : goal.bytes_of-keys-requires
bytes_of-keys-requires c = let s = c in (checked_holds s.args.file.now s.args.o s.requires).keys

pub bytes_of-requires : goal.bytes_of-requires
bytes_of-requires c = let s = c in (checked_holds s.args.file.now s.args.o s.requires).logs

pub span_of-span-requires : goal.span_of-span-requires
span_of-span-requires c = let s = c in
    let some : 1 ≤ s.args.o.edgecount = omega arith in
    let f = s.args.file.now in
    (some, (checked_holds f s.args.o s.requires).edges, logs_long f s.args.o s.requires some c.bytes_of-keys.ensures c.bytes_of.ensures)

pub key_at-requires : goal.key_at-requires
key_at-requires c = let s = c in
    let some : 1 ≤ s.args.o.edgecount = omega arith in
    let f = s.args.file.now in
    let few = (checked_holds f s.args.o s.requires).few in
    let keys = some_keys f s.args.o s.requires some in
    let long = keys_long f s.args.o s.requires some c.bytes_of-keys.ensures c.bytes_of.ensures in
    (omega arith, omega arith)

pub overflow_sub-o : goal.overflow_sub-o
overflow_sub-o c = let s = c in
    let some : 1 ≤ s.args.o.edgecount = omega arith in
    some_keys s.args.file.now s.args.o s.requires some

pub key_at-requires-2 : goal.key_at-requires-2
key_at-requires-2 c = let s = c in
    let some : 1 ≤ s.args.o.edgecount = omega arith in
    let f = s.args.file.now in
    let few = (checked_holds f s.args.o s.requires).few in
    let keys = some_keys f s.args.o s.requires some in
    let long = keys_long f s.args.o s.requires some c.bytes_of-keys.ensures c.bytes_of.ensures in
    (omega arith, omega arith)

pub returns : goal.returns
returns c = let s = c in
    let some : 1 ≤ s.args.o.edgecount = omega arith in
    extremes_some s.args.file.now s.args.o s.requires some c.bytes_of-keys.ensures c.bytes_of.ensures
    c.key_at.ensures c.key_at-2.ensures c.span_of-span.ensures
