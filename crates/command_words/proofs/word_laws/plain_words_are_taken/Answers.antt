use Rattle.command_words.proofs.PlainLemmas.{run_asks, tend_asks, dump_asks, init_asks, upgrade_asks, demo_asks, demo_asks_steps_first, ship_asks, follow_asks, same_asks}
use Rattle.command_words.proofs.word_laws.plain_words_are_taken.Goals as goal

pub returns : goal.returns
returns c = record { run = run_asks; tend = tend_asks; dump = dump_asks; init = init_asks; upgrade = upgrade_asks; demo = demo_asks; steps_first = demo_asks_steps_first; ship = ship_asks; follow = follow_asks; same = same_asks }
