use Rattle.cv_charmap.proofs.MeaningLaws as laws
use Rattle.cv_charmap.proofs.laws.means_maps.Goals as goal

pub returns : goal.returns
returns c = laws.means_maps
