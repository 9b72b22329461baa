use Rattle.exploration.proofs.WrittenNumbers.{written}
use Rattle.exploration.proofs.number_hasher.NumberHasherHasher.write_u64.Goals as goal

pub returns : goal.returns
returns c = written c.args.self.now c.args.i c.mixed-self.result c.ranges.i.fits c.mixed-self.ensures
