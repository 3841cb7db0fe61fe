-- What the writer took is what the sink took.
use Rattle.std.proofs.Common.{rules}
use Rattle.system_io.proofs.Bytes.{appended, kept, none_appended}
use Rattle.system_io.proofs.real.RealSinkSink.write.Goals as goal
use Rattle.system_io.proofs.real.RealSinkSink.write.Goals.{in_default-via-in-Ok+else-count-gt0, in_default-via-in_default}

pub returns-in-Ok-clause-taken : goal.returns-in-Ok-clause-taken
returns-in-Ok-clause-taken g c = appended (g.W.Write.contents c.args.self.now.writer) (g.W.Write.contents c.write.new.self) _ (g.met.W.Tells.alike c.args.self.now.writer c.write.new.self) c.in-Ok.ensures.bytes

pub returns-in_default-clause-refused : goal.returns-in_default-clause-refused
returns-in_default-clause-refused g c = elim c.in_default.branch [
  | in_default-via-in-Ok+else-count-gt0 w ↦ none_appended (g.W.Write.contents c.args.self.now.writer) (g.W.Write.contents c.write.new.self) w.in-Ok.count _ (search rules) (g.met.W.Tells.alike c.args.self.now.writer c.write.new.self) w.in-Ok.ensures.bytes
  | in_default-via-in_default w ↦ kept (g.W.Write.contents c.args.self.now.writer) (g.W.Write.contents c.write.new.self) (g.met.W.Tells.alike c.args.self.now.writer c.write.new.self) w.in_default.ensures.bytes
]
