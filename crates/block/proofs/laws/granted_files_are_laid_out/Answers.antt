use Rattle.block.proofs.LaidOut.{granted-files-are-laid-out}
use Rattle.block.proofs.laws.granted_files_are_laid_out.Goals as goal

pub returns : goal.returns
returns c = granted-files-are-laid-out
