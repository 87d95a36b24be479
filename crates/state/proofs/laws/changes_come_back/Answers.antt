use Rattle.state.proofs.Backward.{held_sound, stays_sound, comes_back, all_come_back, all_sound, made_again}
use Rattle.state.proofs.laws.changes_come_back.Goals as goal

pub returns : goal.returns
returns c = record { held = held_sound; stays = stays_sound; back = comes_back; all_back = all_come_back; all_sound = all_sound; again = made_again }
