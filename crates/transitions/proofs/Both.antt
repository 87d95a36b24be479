-- The laws of the two kinds, as their crate has proved them. Assumes nothing.
use Rattle.std.proofs.Common.{pos, negsuc}
use Rattle.cells.specs.BoundsLaws as bounds-laws
use Rattle.cells.specs.SetsLaws as sets-laws
use Rattle.transitions.specs.Kinds.{BothLawful}

pub both_lawful : BothLawful
both_lawful = record {
  bounds_kind = record {
    lowest = negsuc 999999999;
    highest = pos 1000000000;
    inhabited = bounds-laws.inhabited;
    confined = bounds-laws.confined;
    extensional = bounds-laws.extensional;
    entire = bounds-laws.entire;
    narrows = bounds-laws.narrows;
    answers = bounds-laws.answers;
  };
  sets_kind = record {
    lowest = pos 0;
    highest = pos 63;
    inhabited = sets-laws.inhabited;
    confined = sets-laws.confined;
    extensional = sets-laws.extensional;
    entire = sets-laws.entire;
    narrows = sets-laws.narrows;
    answers = sets-laws.answers;
  };
}
