-- The rules of phases, restart and end, once over any bands, and so over both editions.
use Rattle.settle_bands.specs.Holding.{bands_of, fresh_bands, held_bands}
use Rattle.settle_bands.proofs.Held.{held-once}
use Rattle.settle_all.specs.Settle.{Bander, settle_of}
use Rattle.settle_all.specs.Theorems.{PhaseRules, BothEditions, EachSettlesOnce}
use Rattle.settle_all.proofs.Alone.{settles-alone, settles-to}
use Rattle.settle_all.proofs.Below.{below-limits}
use Rattle.settle_all.proofs.Charged.{taper-ends, charged-stays}
use Rattle.settle_all.proofs.EndTested.{end-test-unmet}
use Rattle.settle_all.proofs.Once.{settles-once}

pub phase-rules : (band : Bander) → PhaseRules band
phase-rules band = record {
  once = settles-once band;
  alone = settles-alone band;
  moved = settles-to band;
  below = below-limits band;
  ends = taper-ends band;
  stays = charged-stays band;
  test = end-test-unmet band;
}

pub both-editions : BothEditions
both-editions = record { any = phase-rules; first = phase-rules fresh_bands; second = phase-rules held_bands }

pub each-settles-once : EachSettlesOnce
unfolding settle_of
each-settles-once = record {
  ours = (phase-rules bands_of).once held-once.ours;
  first = (phase-rules fresh_bands).once held-once.first;
  second = (phase-rules held_bands).once held-once.second;
}
