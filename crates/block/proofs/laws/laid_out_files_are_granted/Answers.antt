use Rattle.block.proofs.LaidOut.{laid-out-files-are-granted}
use Rattle.block.proofs.laws.laid_out_files_are_granted.Goals as goal

pub returns : goal.returns
returns c = laid-out-files-are-granted
