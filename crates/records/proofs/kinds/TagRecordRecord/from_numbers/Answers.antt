use Rattle.records.specs.Made.{tag_made}
use Rattle.records.proofs.kinds.TagRecordRecord.from_numbers.Goals as goal

pub returns : goal.returns
returns c = tag_made c.args.numbers c.new.result c.new.ensures
