mod MadeLemmas
mod RelayFaults
